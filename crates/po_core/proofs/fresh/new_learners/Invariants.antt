use Rattle.std.proofs.Common.{◌≡◌, ◌≤◌, ◌-◌, All, map, length, None}
use Rattle.po_core.specs.Views.{held_of}
use Rattle.po_core.proofs.fresh.new_learners.Given as goal

abbrev pub invariant-learners : goal.invariant-learners
invariant-learners l = record {
  few : length l.held.items ≤ l.learners;
  none : All (λ o. o ≡ None) (map held_of l.held.items);
}

abbrev pub decreases-learners : goal.decreases-learners
decreases-learners l = l.learners - length l.held.items
