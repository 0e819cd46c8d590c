use Rattle.po_skel.proofs.Stand.{filled}
use Rattle.po_skel.proofs.laws.shapes_are_filled.Goals as goal

pub returns : goal.returns
returns c = filled
