use Rattle.std.proofs.Common.{length}
use Rattle.po_trec.proofs.second.+forward_transfers.Given as goal

abbrev pub decreases-forward_transfers : goal.decreases-forward_transfers
decreases-forward_transfers l = length l.ts.now
