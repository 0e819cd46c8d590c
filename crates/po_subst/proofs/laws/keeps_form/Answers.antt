use Rattle.po_subst.proofs.Forms.{joined_form}
use Rattle.po_subst.proofs.laws.keeps_form.Goals as goal

pub returns : goal.returns
returns c = joined_form
