use Rattle.std.proofs.Common.{length}
use Rattle.po_skel.proofs.matching.+match_transfers.Given as goal

abbrev pub decreases-match_transfers : goal.decreases-match_transfers
decreases-match_transfers l = length l.ts.now
