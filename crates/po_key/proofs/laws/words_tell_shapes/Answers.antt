use Rattle.po_key.proofs.OneShape.{one_shape}
use Rattle.po_key.proofs.laws.words_tell_shapes.Goals as goal

pub returns : goal.returns
returns c = one_shape
