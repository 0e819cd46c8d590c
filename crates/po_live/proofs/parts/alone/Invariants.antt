use Rattle.std.proofs.Common.{map}
use Rattle.po_model.specs.Blocks.{block_of}
use Rattle.po_live.specs.Sets.{nothing}
use Rattle.po_live.specs.Parts.{IsListTo, NoneCross}
use Rattle.po_live.proofs.parts.alone.Given as goal

abbrev pub invariant-loop-b : goal.invariant-loop-b
invariant-loop-b l = record {
  list : IsListTo (map block_of l.blocks) (λ b. nothing) l.list l.b;
  none : NoneCross (map block_of l.blocks) l.b;
}
