use Rattle.po_expand.proofs.CcAtStarts.{cc_dead}
use Rattle.po_expand.proofs.laws.cc_dead_at_starts.Goals as goal

pub returns : goal.returns
returns c = cc_dead
