use Rattle.std.proofs.Common.{◌≡◌, ℕ, ◌&&◌, length, map, nat_lt}
use Rattle.po_model.specs.Blocks.{block_of, leads}
use Rattle.po_live.specs.Flow.{pred_at}
use Rattle.po_live.proofs.graph.predecessors.Given as goal

abbrev pub invariant-loop-b : goal.invariant-loop-b
invariant-loop-b l =
    (length l.preds.items ≡ length l.blocks)
    × ((q p : ℕ) → pred_at l.preds.items q p ≡ (nat_lt p l.b && leads (map block_of l.blocks) p q))
