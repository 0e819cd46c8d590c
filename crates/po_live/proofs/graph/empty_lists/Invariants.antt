use Rattle.std.proofs.Common.{◌≡◌, ℕ, length, false}
use Rattle.po_live.specs.Flow.{pred_at}
use Rattle.po_live.proofs.graph.empty_lists.Given as goal

abbrev pub invariant-loop-made : goal.invariant-loop-made
invariant-loop-made l = (length l.preds.items ≡ l.made) × ((q p : ℕ) → pred_at l.preds.items q p ≡ false)
