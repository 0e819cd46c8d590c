use Rattle.po_slow.specs.States.{IsFormedState}
use Rattle.po_rows.proofs.branch.tries_all.Given as goal

abbrev pub invariant-loop-row : goal.invariant-loop-row
invariant-loop-row g l = IsFormedState l.scan
