use Rattle.std.proofs.Common.{◌≡◌, ℕ, ◌||◌, ◌&&◌, ◌==◌, take}
use Rattle.po_model.specs.declared.var.Var.{Var}
use Rattle.po_live.specs.Due.{is_due, in_regs}
use Rattle.po_live.proofs.solve.push_regs.Given as goal

abbrev pub invariant-loop-r : goal.invariant-loop-r
invariant-loop-r l =
    (c : ℕ) (q : Var)
    → is_due l.work.items c q
    ≡ ((l.b == c && in_regs (take l.r-index l.regs) q) || is_due l.initial.work.items c q)
