use Rattle.std.proofs.Common.{◌≡◌, ◌+◌, [], All, length, IsSome}
use Rattle.po_queue.specs.Passes.{new_pass}
use Rattle.po_team.specs.Works.{HasPosted}
use Rattle.po_team.proofs.seats.worker_seats.Given as goal

abbrev pub invariant-loop-reader : goal.invariant-loop-reader
invariant-loop-reader g l =
    (goal.iterator-loop-reader g).can_next l.reader-iterator
    × (goal.iterator-loop-reader g).is_finite l.reader-iterator
    × All (λ p. p ≡ new_pass l.posts.queue) l.passes.items
    × (length l.seats.items + length l.reader-iterator.rest.items ≡ length l.fn.readers.items)
    × (length l.passes.items + length l.seats.items ≡ length l.initial.passes.items)
    × All (λ s. IsSome s.way × (g.T.Lookup.machine s.empty ≡ g.L.StoreName.machine)
    × (g.T.Lookup.rules s.empty ≡ []) × HasPosted l.posts.queue s.pass s.fulls 0 0) l.seats.items
