use Rattle.std.proofs.Common.{map}
use Rattle.po_model.specs.Blocks.{block_of}
use Rattle.po_expand.specs.Checks.{AllFitBefore}
use Rattle.po_expand.proofs.fitting.check_blocks.Given as goal

abbrev pub invariant-loop-b : goal.invariant-loop-b
invariant-loop-b l = AllFitBefore l.m l.lives (map block_of l.blocks) l.b
