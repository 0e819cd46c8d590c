use Rattle.po_queue.proofs.Accounts.{moments}
use Rattle.po_queue.proofs.pass.Pass.len.Goals as goal

pub len_as-requires-clause-rule : goal.len_as-requires-clause-rule
len_as-requires-clause-rule g c = moments _ _
