use Rattle.std.proofs.Common.{◌≡◌, ◌++◌, drop, map}
use Rattle.std.specs.Arc.{arc_value}
use Rattle.po_table.proofs.table.shared_again.Given as goal

-- the rules so far, with those that are still to come, are all of them
abbrev pub invariant-loop-rule : goal.invariant-loop-rule
invariant-loop-rule l =
    map (λ r. arc_value r) l.out.items ++ map (λ r. arc_value r) (drop l.rule-index l.rules)
    ≡ map (λ r. arc_value r) l.rules
