use Rattle.po_queue.proofs.Accounts.{takes, moments}
use Rattle.po_queue.proofs.pass.Pass.take.Goals as goal

pub pop_as-requires-clause-rule : goal.pop_as-requires-clause-rule
pop_as-requires-clause-rule g c = (takes _ _ c.self.invariant.1, moments _ _)
