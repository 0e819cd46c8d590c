use Rattle.std.proofs.Common.{◌++◌}
use Rattle.po_tally.proofs.Joining.{AreJoining}
use Rattle.po_tally.proofs.tally.join.Given as goal

abbrev pub invariant-loop-tally : goal.invariant-loop-tally
invariant-loop-tally l =
    AreJoining (l.initial.tallies.items ++ l.fn.others.items) l.tally-iterator.rest.items l.tallies.items
