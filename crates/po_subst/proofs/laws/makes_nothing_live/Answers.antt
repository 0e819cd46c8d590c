use Rattle.po_subst.proofs.Reading.{joined_makes_nothing}
use Rattle.po_subst.proofs.laws.makes_nothing_live.Goals as goal

pub returns : goal.returns
returns c = joined_makes_nothing
