use Rattle.po_assign.proofs.Apart.{placement_apart}
use Rattle.po_assign.proofs.unit.never_shared.Goals as goal

pub returns : goal.returns
returns c = placement_apart
