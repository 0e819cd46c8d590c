use Rattle.po_recog.proofs.Limits.{within_limits}
use Rattle.po_recog.proofs.laws.fits_within_limits.Goals as goal

pub returns : goal.returns
returns c = within_limits
