use Rattle.po_queue.proofs.Accounts.{puts, moments}
use Rattle.po_queue.proofs.pass.Pass.offer.Goals as goal

pub push_as-requires-clause-rule : goal.push_as-requires-clause-rule
push_as-requires-clause-rule g c = (puts _ _ _ _ c.self.invariant.1, moments _ _)
