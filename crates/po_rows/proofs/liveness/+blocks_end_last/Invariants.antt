use Rattle.std.proofs.Common.{length}
use Rattle.po_rows.proofs.liveness.+blocks_end_last.Given as goal

abbrev pub decreases-blocks_end_last : goal.decreases-blocks_end_last
decreases-blocks_end_last l = length l.blocks.now
