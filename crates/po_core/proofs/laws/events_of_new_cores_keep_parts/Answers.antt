use Rattle.po_core.proofs.Starting.{new_list_kept}
use Rattle.po_core.proofs.laws.events_of_new_cores_keep_parts.Goals as goal

pub returns : goal.returns
returns c = new_list_kept
