use Rattle.std.proofs.Common.{length}
use Rattle.po_rule.proofs.same.+same_registers.Given as goal

abbrev pub decreases-same_registers : goal.decreases-same_registers
decreases-same_registers l = length l.rs.now
