use Rattle.std.proofs.Common.{refl}
use Rattle.po_tally.proofs.Ended.{none_left}
use Rattle.po_tally.proofs.Shortening.{shortening_begin, shortening_next, shortening_end}
use Rattle.po_tally.proofs.brief.short_of.Goals as goal

pub loop-report-init : goal.loop-report-init
loop-report-init c = shortening_begin c.args.reports.items c.into_iter-report-iterator.result.rest.items (_)
    c.into_iter-report-iterator.ensures.into_iter_gives.0 c.new.ensures.items c.new-2.ensures.items

pub loop-report-preserved : goal.loop-report-preserved
loop-report-preserved c = shortening_next c.args.reports.items c.loop-report.report-iterator.rest.items
    c.next.new.self.rest.items c.in-Some.report c.loop-report.short c.add.new.self c.loop-report.invariant
    c.in-Some.ensures.steps.0 c.in_ok-add.ensures.tallies c.in_ok-add.ensures.misses

pub returns : goal.returns
returns c = shortening_end c.args.reports.items c.loop-report.report-iterator.rest.items c.loop-report.short
    (none_left c.loop-report.report-iterator.rest.len c.loop-report.report-iterator.rest.items
    c.loop-report.report-iterator.rest.ok.0 c.in-None.ensures.steps.0) c.loop-report.invariant
