use Rattle.std.proofs.Common.{length}
use Rattle.po_skel.proofs.matching.+match_both_live.Given as goal

abbrev pub decreases-match_both_live : goal.decreases-match_both_live
decreases-match_both_live l = length l.rs.now
