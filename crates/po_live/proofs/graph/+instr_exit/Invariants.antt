use Rattle.std.proofs.Common.{length}
use Rattle.po_live.proofs.graph.+instr_exit.Given as goal

abbrev pub decreases-instr_exit : goal.decreases-instr_exit
decreases-instr_exit l = length l.xs.now
