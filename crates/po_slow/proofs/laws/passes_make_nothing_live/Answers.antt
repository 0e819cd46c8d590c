use Rattle.po_slow.proofs.LivenessPasses.{make_nothing_live}
use Rattle.po_slow.proofs.laws.passes_make_nothing_live.Goals as goal

pub returns : goal.returns
returns c = make_nothing_live
