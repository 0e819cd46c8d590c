use Rattle.po_slow.specs.States.{IsFormedState}
use Rattle.po_rows.proofs.passes.tries.Given as goal

abbrev pub invariant-loop-tries : goal.invariant-loop-tries
invariant-loop-tries g l = IsFormedState l.scan
