use Rattle.po_subst.proofs.Keeping.{joined_keeps}
use Rattle.po_subst.proofs.laws.keeps_effect.Goals as goal

pub returns : goal.returns
returns c = joined_keeps
