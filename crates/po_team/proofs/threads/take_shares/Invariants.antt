use Rattle.std.proofs.Common.{◌≡◌, ◌++◌, map}
use Rattle.po_team.proofs.threads.take_shares.Given as goal

-- what is there, with what is still to come, is the whole
abbrev pub invariant-loop-seat : goal.invariant-loop-seat
invariant-loop-seat g l =
    (l.passes.items ++ map (λ s. s.pass) l.seat-iterator.rest.items
    ≡ l.initial.passes.items ++ map (λ s. s.pass) l.fn.seats.items)
    × (l.shares.items ++ map (λ s. s.share) l.seat-iterator.rest.items ≡ map (λ s. s.share) l.fn.seats.items)
