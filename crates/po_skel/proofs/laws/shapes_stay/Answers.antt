use Rattle.po_skel.proofs.AfterPut.{stays}
use Rattle.po_skel.proofs.laws.shapes_stay.Goals as goal

pub returns : goal.returns
returns c = λ p w belong. stays p w belong
