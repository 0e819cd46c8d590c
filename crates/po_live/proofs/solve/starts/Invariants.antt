use Rattle.std.proofs.Common.{◌≡◌, ℕ, ◌&&◌, nat_lt, map}
use Rattle.po_model.specs.declared.var.Var.{Var}
use Rattle.po_model.specs.Blocks.{block_of, instrs_at}
use Rattle.po_live.specs.Sets.{back, nothing}
use Rattle.po_live.specs.Due.{is_due}
use Rattle.po_live.proofs.solve.starts.Given as goal

abbrev pub invariant-loop-b : goal.invariant-loop-b
invariant-loop-b l =
    (c : ℕ) (q : Var)
    → is_due l.work.items c q ≡ (nat_lt c l.b && back (instrs_at (map block_of l.blocks) c) nothing q)
