use Rattle.std.proofs.Common.{◌≡◌, refl}
use Rattle.po_tally.proofs.tally.place_of.Given as goal

-- nothing is said of the tallies before
abbrev pub invariant-loop-i : goal.invariant-loop-i
invariant-loop-i l = l.tallies ≡ l.tallies
