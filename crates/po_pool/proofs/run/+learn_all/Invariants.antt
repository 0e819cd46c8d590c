use Rattle.std.proofs.Common.{length}
use Rattle.po_pool.proofs.run.+learn_all.Given as goal

abbrev pub decreases-learn_all : goal.decreases-learn_all
decreases-learn_all g l = length l.learners.items
