use Rattle.po_slow.specs.States.{IsFormedState}
use Rattle.po_core_rows.proofs.setting.pair.Given as goal

abbrev pub invariant-loop : goal.invariant-loop
invariant-loop l = IsFormedState l.scan
