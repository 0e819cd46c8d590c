use Rattle.po_core.specs.Parts.{HasParts}
use Rattle.po_core.specs.Views.{core_of, IsFormedCore}
use Rattle.po_core_rows.proofs.events.played.Given as goal

abbrev pub invariant-loop-row : goal.invariant-loop-row
invariant-loop-row g l = record {
  formed : IsFormedCore l.core;
  parts : HasParts (core_of l.core);
}
