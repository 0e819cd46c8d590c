use Rattle.std.proofs.Common.{◌≡◌, ℕ, length, false}
use Rattle.po_model.specs.declared.var.Var.{Var}
use Rattle.po_live.specs.Sets.{holds_at}
use Rattle.po_live.proofs.solve.empty_sets.Given as goal

abbrev pub invariant-loop-made : goal.invariant-loop-made
invariant-loop-made l = (length l.out.items ≡ l.made) × ((b : ℕ) (q : Var) → holds_at l.out.items b q ≡ false)
