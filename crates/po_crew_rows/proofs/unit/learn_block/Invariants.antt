use Rattle.std.proofs.Common.{◌≡◌}
use Rattle.po_crew_rows.proofs.unit.learn_block.Given as goal

abbrev pub invariant-loop-p : goal.invariant-loop-p
invariant-loop-p g l = l.table.0 ≡ l.initial.table.0
