use Rattle.std.proofs.Common.{◌≡◌, take, map}
use Rattle.po_model.specs.Blocks.{block_of}
use Rattle.po_model.proofs.copy.copy_code.Given as goal

abbrev pub invariant-loop-b : goal.invariant-loop-b
invariant-loop-b l = map block_of l.blocks.items ≡ map block_of (take l.b-index l.c.blocks.items)
