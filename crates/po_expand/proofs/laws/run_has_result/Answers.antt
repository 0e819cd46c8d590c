use Rattle.po_expand.proofs.Results.{has_result}
use Rattle.po_expand.proofs.laws.run_has_result.Goals as goal

pub returns : goal.returns
returns c = has_result
