use Rattle.po_tally.proofs.Ended.{none_left}
use Rattle.po_opt.proofs.Summing.{summing_begin, summing_next, summing_end}
use Rattle.po_opt.proofs.works.tell.Goals as goal

pub loop-brief-init : goal.loop-brief-init
loop-brief-init c = summing_begin c.args.briefs.items c.into_iter-brief-iterator.result.rest.items c.new-told.result
    c.into_iter-brief-iterator.ensures.into_iter_gives.0 c.new-told.ensures.codes c.new-told.ensures.tallies
    c.new-told.ensures.misses c.new-told.ensures.taken c.new-told.ensures.dropped

pub loop-brief-preserved : goal.loop-brief-preserved
loop-brief-preserved c =
    let x = c.in_ok-add.ensures in
    summing_next c.args.briefs.items c.loop-brief.brief-iterator.rest.items c.next.new.self.rest.items
    c.in-Some.brief c.loop-brief.told c.add.new.self c.loop-brief.invariant c.in-Some.ensures.steps.0
    (record { codes = x.codes; tallies = x.tallies; misses = x.misses; taken = x.taken; dropped = x.dropped })

pub returns-clause-codes : goal.returns-clause-codes
returns-clause-codes c = (summing_end c.args.briefs.items c.loop-brief.brief-iterator.rest.items c.loop-brief.told
    (none_left c.loop-brief.brief-iterator.rest.len c.loop-brief.brief-iterator.rest.items
    c.loop-brief.brief-iterator.rest.ok.0 c.in-None.ensures.steps.0) c.loop-brief.invariant).codes

pub returns-clause-tallies : goal.returns-clause-tallies
returns-clause-tallies c = (summing_end c.args.briefs.items c.loop-brief.brief-iterator.rest.items c.loop-brief.told
    (none_left c.loop-brief.brief-iterator.rest.len c.loop-brief.brief-iterator.rest.items
    c.loop-brief.brief-iterator.rest.ok.0 c.in-None.ensures.steps.0) c.loop-brief.invariant).tallies

pub returns-clause-misses : goal.returns-clause-misses
returns-clause-misses c = (summing_end c.args.briefs.items c.loop-brief.brief-iterator.rest.items c.loop-brief.told
    (none_left c.loop-brief.brief-iterator.rest.len c.loop-brief.brief-iterator.rest.items
    c.loop-brief.brief-iterator.rest.ok.0 c.in-None.ensures.steps.0) c.loop-brief.invariant).misses

pub returns-clause-taken : goal.returns-clause-taken
returns-clause-taken c = (summing_end c.args.briefs.items c.loop-brief.brief-iterator.rest.items c.loop-brief.told
    (none_left c.loop-brief.brief-iterator.rest.len c.loop-brief.brief-iterator.rest.items
    c.loop-brief.brief-iterator.rest.ok.0 c.in-None.ensures.steps.0) c.loop-brief.invariant).taken

pub returns-clause-dropped : goal.returns-clause-dropped
returns-clause-dropped c = (summing_end c.args.briefs.items c.loop-brief.brief-iterator.rest.items c.loop-brief.told
    (none_left c.loop-brief.brief-iterator.rest.len c.loop-brief.brief-iterator.rest.items
    c.loop-brief.brief-iterator.rest.ok.0 c.in-None.ensures.steps.0) c.loop-brief.invariant).dropped
