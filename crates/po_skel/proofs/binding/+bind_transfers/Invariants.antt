use Rattle.std.proofs.Common.{length}
use Rattle.po_skel.proofs.binding.+bind_transfers.Given as goal

abbrev pub decreases-bind_transfers : goal.decreases-bind_transfers
decreases-bind_transfers l = length l.ts.now
