use Rattle.std.proofs.Common.{length}
use Rattle.po_recog.proofs.walk.+takes_moves.Given as goal

abbrev pub decreases-takes_moves : goal.decreases-takes_moves
decreases-takes_moves l = length l.ps.now
