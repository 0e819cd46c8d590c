use Rattle.std.proofs.Common.{subst}
use Rattle.po_model.specs.Lookups.{AreCanonical}
use Rattle.po_table.specs.Tables.{rules_of}
use Rattle.po_table.proofs.table.RuleTable.machine.Goals as goal

pub returns-clause-canonical : goal.returns-clause-canonical
returns-clause-canonical c = subst (λ t. AreCanonical t.0 (rules_of t)) c.self.view_is c.self.invariant.canonical
