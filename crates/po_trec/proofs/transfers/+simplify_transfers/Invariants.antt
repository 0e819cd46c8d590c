use Rattle.std.proofs.Common.{length}
use Rattle.po_trec.proofs.transfers.+simplify_transfers.Given as goal

abbrev pub decreases-simplify_transfers : goal.decreases-simplify_transfers
decreases-simplify_transfers l = length l.ts.now
