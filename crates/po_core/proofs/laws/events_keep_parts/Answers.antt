use Rattle.po_core.proofs.Kept.{kept_list}
use Rattle.po_core.proofs.laws.events_keep_parts.Goals as goal

pub returns : goal.returns
returns c = kept_list
