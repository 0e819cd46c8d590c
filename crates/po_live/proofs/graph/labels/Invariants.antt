use Rattle.std.proofs.Common.{◌≡◌, ◌≤◌, drop, length, map}
use Rattle.std.specs.Ordering.{nat_cmp}
use Rattle.std.specs.BTreeMap.{get}
use Rattle.po_term.specs.declared.term.Label.{Label}
use Rattle.po_model.specs.Blocks.{block_of, block_from}
use Rattle.po_live.proofs.graph.labels.Given as goal

abbrev pub invariant-loop-b : goal.invariant-loop-b
invariant-loop-b l =
    (l.b ≤ length l.blocks)
    × ((m : Label) → get nat_cmp l.first m.0 ≡ block_from l.b (map block_of (drop l.b l.blocks)) m)

abbrev pub decreases-loop-b : goal.decreases-loop-b
decreases-loop-b l = l.b
