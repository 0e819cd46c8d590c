use Rattle.po_slow.specs.States.{IsFormedState}
use Rattle.po_rows.proofs.passes.passes_try.Given as goal

abbrev pub invariant-loop-count : goal.invariant-loop-count
invariant-loop-count g l = IsFormedState l.scan
