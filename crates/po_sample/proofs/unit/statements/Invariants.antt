use Rattle.std.proofs.Common.{◌≡◌, ◌++◌, ◌-◌}
use Rattle.po_sample.specs.Sample.{statements}
use Rattle.po_sample.proofs.unit.statements.Given as goal

-- the operations so far, with those of the statements to come, are those of all statements
abbrev pub invariant-loop-j : goal.invariant-loop-j
invariant-loop-j l = l.ops ++ statements (8 - l.j) l.j l.draws.0 ≡ l.initial.ops ++ statements 8 0 l.initial.draws.0
