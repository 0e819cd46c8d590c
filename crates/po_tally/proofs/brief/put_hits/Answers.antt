use Rattle.std.proofs.Common.{map, ap}
use Rattle.po_tally.specs.Tallies.{tally_of}
use Rattle.po_tally.proofs.Ended.{none_left}
use Rattle.po_tally.proofs.Joining.{joining_begin, joining_next, joining_end}
use Rattle.po_tally.proofs.brief.put_hits.Goals as goal

pub loop-hit-init : goal.loop-hit-init
loop-hit-init c = joining_begin c.args.tallies.now.items (map tally_of c.args.hits.items)
    (map tally_of c.into_iter-hit-iterator.result.rest.items)
    (ap (map tally_of) c.into_iter-hit-iterator.ensures.into_iter_gives.0)

pub loop-hit-preserved : goal.loop-hit-preserved
loop-hit-preserved c = joining_next (_) (map tally_of c.loop-hit.hit-iterator.rest.items)
    (map tally_of c.next.new.self.rest.items)
    c.loop-hit.tallies.items c.put.new.tallies.items (tally_of c.in-Some.hit) c.loop-hit.invariant
    (ap (map tally_of) c.in-Some.ensures.steps.0) c.in_ok-put.ensures

pub returns : goal.returns
returns c = joining_end (_) (map tally_of c.loop-hit.hit-iterator.rest.items) c.loop-hit.tallies.items
    (ap (map tally_of) (none_left c.loop-hit.hit-iterator.rest.len c.loop-hit.hit-iterator.rest.items
    c.loop-hit.hit-iterator.rest.ok.0 c.in-None.ensures.steps.0)) c.loop-hit.invariant
