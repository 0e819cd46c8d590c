use Rattle.std.proofs.Common.{◌++◌, map}
use Rattle.po_tally.specs.Tallies.{tally_of}
use Rattle.po_tally.proofs.Joining.{AreJoining}
use Rattle.po_tally.proofs.brief.put_hits.Given as goal

abbrev pub invariant-loop-hit : goal.invariant-loop-hit
invariant-loop-hit l =
    AreJoining (l.initial.tallies.items ++ map tally_of l.fn.hits.items) (map tally_of l.hit-iterator.rest.items)
    l.tallies.items
