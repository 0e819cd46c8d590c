use Rattle.po_slow.proofs.KeptForm.{form_kept}
use Rattle.po_slow.proofs.laws.passes_keep_form.Goals as goal

pub returns : goal.returns
returns c = form_kept
