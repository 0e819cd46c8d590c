use Rattle.std.proofs.Common.{length}
use Rattle.po_rule.proofs.same.+same_transfers.Given as goal

abbrev pub decreases-same_transfers : goal.decreases-same_transfers
decreases-same_transfers l = length l.xs.now
