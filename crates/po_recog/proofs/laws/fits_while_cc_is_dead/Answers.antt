use Rattle.po_recog.proofs.Clobbers.{fits_dead}
use Rattle.po_recog.proofs.laws.fits_while_cc_is_dead.Goals as goal

pub returns : goal.returns
returns c = fits_dead
