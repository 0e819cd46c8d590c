use Rattle.std.proofs.Common.{◌≡◌, ◌≤◌}
use Rattle.std.specs.Vec.{vec_len, vec_capacity}
use Rattle.po_queue.specs.Gathered.{Took}
use Rattle.po_queue.proofs.posts.Posts.drain.Given as goal

abbrev pub invariant-loop : goal.invariant-loop
invariant-loop g l = Took l.initial.keeper l.keeper l.left.items × (vec_len l.left ≡ l.counter)
    × (l.initial.keeper.queue.capacity ≤ vec_capacity l.left)
