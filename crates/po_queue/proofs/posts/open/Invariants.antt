use Rattle.std.proofs.Common.{◌≡◌, ◌≤◌, ◌-◌, ◌+◌, length}
use Rattle.std.specs.List.{All}
use Rattle.std.specs.Vec.{vec_len, vec_capacity}
use Rattle.po_queue.specs.Balance.{all_parts}
use Rattle.po_queue.specs.Passes.{PassView, fresh_pass, new_pass}
use Rattle.po_queue.proofs.posts.open.Given as goal

abbrev pub invariant-loop : goal.invariant-loop
invariant-loop g l =
    (l.keeper ≡ fresh_pass l.initial.keeper.queue (all_parts - l.counter)) × (vec_len l.all ≡ l.counter)
    × (l.passes ≤ vec_capacity l.all)
    × All (λ (p : PassView g.row.T.Denot). p ≡ new_pass l.initial.keeper.queue) l.all.items
