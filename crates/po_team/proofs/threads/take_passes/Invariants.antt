use Rattle.std.proofs.Common.{◌≡◌, ◌++◌, map}
use Rattle.po_team.specs.Ends.{passes_in}
use Rattle.po_team.proofs.threads.take_passes.Given as goal

-- what is there, with what is still to come, is the whole
abbrev pub invariant-loop-seat : goal.invariant-loop-seat
invariant-loop-seat g l =
    l.passes.items ++ passes_in (map (λ s. s.pass) l.seat-iterator.rest.items)
    ≡ l.initial.passes.items ++ passes_in (map (λ s. s.pass) l.fn.seats.items)
