use Rattle.po_slow.proofs.LivenessPasses.{keep_fit}
use Rattle.po_slow.proofs.laws.passes_keep_fit.Goals as goal

pub returns : goal.returns
returns c = keep_fit
