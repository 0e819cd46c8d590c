use Rattle.std.proofs.Common.{length}
use Rattle.po_rows.proofs.liveness.+block_ends_last.Given as goal

abbrev pub decreases-block_ends_last : goal.decreases-block_ends_last
decreases-block_ends_last l = length l.xs.now
