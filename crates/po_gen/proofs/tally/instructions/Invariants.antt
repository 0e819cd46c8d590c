use Rattle.std.proofs.Common.{◌≡◌, ◌+◌, drop}
use Rattle.po_gen.proofs.Counting.{size}
use Rattle.po_gen.proofs.tally.instructions.Given as goal

-- the instructions so far and those of the blocks to come
abbrev pub invariant-loop-block : goal.invariant-loop-block
invariant-loop-block l = l.count + size (drop l.block-index l.code.blocks.items) ≡ size l.code.blocks.items
