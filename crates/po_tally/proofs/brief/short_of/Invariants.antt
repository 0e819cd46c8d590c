use Rattle.po_tally.proofs.Shortening.{AreShortening}
use Rattle.po_tally.proofs.brief.short_of.Given as goal

abbrev pub invariant-loop-report : goal.invariant-loop-report
invariant-loop-report l = AreShortening l.fn.reports.items l.report-iterator.rest.items l.short
