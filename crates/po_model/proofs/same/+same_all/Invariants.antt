use Rattle.std.proofs.Common.{length}
use Rattle.po_model.proofs.same.+same_all.Given as goal

abbrev pub decreases-same_all : goal.decreases-same_all
decreases-same_all g l = length l.xs.now
