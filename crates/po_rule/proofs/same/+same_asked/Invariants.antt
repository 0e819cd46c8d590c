use Rattle.std.proofs.Common.{length}
use Rattle.po_rule.proofs.same.+same_asked.Given as goal

abbrev pub decreases-same_asked : goal.decreases-same_asked
decreases-same_asked l = length l.xs.now
