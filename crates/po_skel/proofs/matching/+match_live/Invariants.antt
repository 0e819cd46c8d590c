use Rattle.std.proofs.Common.{length}
use Rattle.po_skel.proofs.matching.+match_live.Given as goal

abbrev pub decreases-match_live : goal.decreases-match_live
decreases-match_live l = length l.rs.now
