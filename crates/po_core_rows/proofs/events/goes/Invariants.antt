use Rattle.po_core.specs.Parts.{HasParts}
use Rattle.po_core.specs.Views.{core_of, IsFormedCore}
use Rattle.po_core_rows.proofs.events.goes.Given as goal

abbrev pub invariant-loop : goal.invariant-loop
invariant-loop g l = record {
  formed : IsFormedCore l.core;
  parts : HasParts (core_of l.core);
}
