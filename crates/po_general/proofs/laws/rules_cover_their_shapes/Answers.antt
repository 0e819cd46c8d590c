use Rattle.po_general.proofs.Rules.{covers}
use Rattle.po_general.proofs.laws.rules_cover_their_shapes.Goals as goal

pub returns : goal.returns
returns c = covers
