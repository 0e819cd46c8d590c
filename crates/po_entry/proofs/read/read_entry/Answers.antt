use Rattle.po_entry.proofs.Allowed.{entry_allowed}
use Rattle.po_entry.proofs.read.read_entry.Goals as goal

pub returns-clause-allowed : goal.returns-clause-allowed
returns-clause-allowed c = entry_allowed c.args.line.now c.in_ok-entry.entry c.in_ok-entry.ensures
