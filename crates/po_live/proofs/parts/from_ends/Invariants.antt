use Rattle.std.proofs.Common.{map}
use Rattle.po_model.specs.Blocks.{block_of}
use Rattle.po_live.specs.Sets.{holds_at}
use Rattle.po_live.specs.Parts.{IsListTo}
use Rattle.po_live.proofs.parts.from_ends.Given as goal

abbrev pub invariant-loop-b : goal.invariant-loop-b
invariant-loop-b l = IsListTo (map block_of l.blocks) (holds_at l.out) l.list l.b
