use Rattle.po_tally.proofs.Ended.{none_left}
use Rattle.po_tally.proofs.Joining.{joining_begin, joining_next, joining_end}
use Rattle.po_tally.proofs.tally.join.Goals as goal

pub loop-tally-init : goal.loop-tally-init
loop-tally-init c = joining_begin c.args.tallies.now.items c.args.others.items
    c.into_iter-tally-iterator.result.rest.items c.into_iter-tally-iterator.ensures.into_iter_gives.0

pub loop-tally-preserved : goal.loop-tally-preserved
loop-tally-preserved c = joining_next (_) c.loop-tally.tally-iterator.rest.items c.next.new.self.rest.items
    c.loop-tally.tallies.items c.put.new.tallies.items c.in-Some.tally c.loop-tally.invariant
    c.in-Some.ensures.steps.0 c.in_ok-put.ensures

pub returns : goal.returns
returns c = joining_end (_) c.loop-tally.tally-iterator.rest.items c.loop-tally.tallies.items
    (none_left c.loop-tally.tally-iterator.rest.len c.loop-tally.tally-iterator.rest.items
    c.loop-tally.tally-iterator.rest.ok.0 c.in-None.ensures.steps.0) c.loop-tally.invariant
