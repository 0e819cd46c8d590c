use Rattle.po_slow.proofs.Dead.{leaves_no_trace}
use Rattle.po_slow.proofs.laws.dead_leaves_no_trace.Goals as goal

pub returns : goal.returns
returns c = leaves_no_trace
