use Rattle.std.proofs.Common.{sym, subst}
use Rattle.po_compile.specs.declared.mode.Mode.TheVariants.{Opt}
use Rattle.po_compile.specs.declared.status.Status.{Status}
use Rattle.po_compile.specs.Statuses.{IsComplete}
use Rattle.po_words.specs.declared.request.Request.TheVariants as request
use Rattle.po_run.specs.Stats.{stats_text, OnCounts, AreStatsOf}
use Rattle.po_run.proofs.Telling.{told_of}
use Rattle.po_run.proofs.run.serve_opt.Goals as goal

pub returns-clause-complete : goal.returns-clause-complete
returns-clause-complete g c = subst (λ (s : Status). IsComplete Opt s (g.S.Source.left c.args.source.now)
    (g.S.Source.faults c.args.source.now) (g.S.Source.faults c.run_by-ran.new.source) (g.K.Sink.faults c.args.sink.now)
    (g.K.Sink.faults c.run_by-ran.new.sink)) (sym c.with_counts.ensures.status) c.run_by-ran.ensures.complete

pub returns-clause-stats : goal.returns-clause-stats
returns-clause-stats g c =
    let old = g.S.Source.left c.args.source.now in
    let new = g.S.Source.left c.run_by-ran.new.source in
    let counts : OnCounts c.args.learners c.run_by-ran.result.status c.run_by-ran.result.counts old new =
    subst (λ n. OnCounts n c.run_by-ran.result.status c.run_by-ran.result.counts old new) c.new.ensures.learners
    c.run_by-ran.ensures.counts in
    rw (sym c.with_counts.ensures.status, sym c.with_counts.ensures.stats)
    at (told_of c.args.workers c.args.learners c.args.stats c.run_by-ran.result.status c.run_by-ran.result.counts old
    new counts)
