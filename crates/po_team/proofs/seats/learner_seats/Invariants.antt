use Rattle.std.proofs.Common.{◌≡◌, ◌+◌, All, length}
use Rattle.po_queue.specs.Passes.{new_pass}
use Rattle.po_team.specs.Seats.{HasLearned}
use Rattle.po_team.proofs.seats.learner_seats.Given as goal

abbrev pub invariant-loop-pass : goal.invariant-loop-pass
invariant-loop-pass g l =
    (goal.iterator-loop-pass g).can_next l.pass-iterator
    × (goal.iterator-loop-pass g).is_finite l.pass-iterator
    × All (λ p. p ≡ new_pass l.posts.queue) l.pass-iterator.rest.items
    × (length l.seats.items + length l.pass-iterator.rest.items ≡ length l.fn.passes.items)
    × (l.publisher.parts + length l.seats.items ≡ l.initial.publisher.parts)
    × (l.publisher.amount ≡ l.initial.publisher.amount)
    × (l.publisher.rules ≡ l.initial.publisher.rules)
    × (l.publisher.log ≡ l.initial.publisher.log)
    × All (λ s. HasLearned l.posts.queue s.pass s.share.parts s.share.amount s.refused) l.seats.items
