use Rattle.std.specs.Arc.{arc_value}
use Rattle.po_opt.proofs.Making.{told_tallies, told_formed, told_posted, made_by}
use Rattle.po_opt.proofs.opt.end.Goals as goal

pub end_run-requires-clause-tallies : goal.end_run-requires-clause-tallies
end_run-requires-clause-tallies g c =
    told_tallies (arc_value c.args.machine.now) c.requires.works.0 c.args.ended.works.items c.in_ok-told.told
    c.requires.works.1 c.in_ok-told.ensures.tallies c.in_ok-told.ensures.misses

pub end_run-requires-clause-formed : goal.end_run-requires-clause-formed
end_run-requires-clause-formed g c =
    told_formed (arc_value c.args.machine.now) c.requires.works.0 c.args.ended.works.items c.in_ok-told.told
    c.requires.works.1 c.in_ok-told.ensures.tallies c.in_ok-told.ensures.misses

pub end_run-requires-clause-posted : goal.end_run-requires-clause-posted
end_run-requires-clause-posted g c =
    told_posted (arc_value c.args.machine.now) c.requires.works.0 c.args.ended.works.items c.in_ok-told.told
    c.requires.works.1 c.in_ok-told.ensures.tallies c.in_ok-told.ensures.misses c.in_ok-told.ensures.taken
    c.in_ok-told.ensures.dropped

pub returns : goal.returns
returns g c codes are =
    made_by (arc_value c.args.machine.now) codes c.args.ended.works.items c.in_ok-told.told are
    c.in_ok-told.ensures.tallies c.in_ok-told.ensures.misses c.args.posts.queue.capacity _ c.in_ok-made.made
    c.requires.capacity c.in_ok-told.ensures.codes c.in_ok-made.ensures.codes c.in_ok-made.ensures.counts
