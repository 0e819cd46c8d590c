use Rattle.std.proofs.Common.{sym, subst}
use Rattle.po_compile.specs.declared.status.Status.{Status}
use Rattle.po_compile.specs.Statuses.{IsComplete}
use Rattle.po_run.specs.Asked.{InMode}
use Rattle.po_run.proofs.run.serve_any.Goals as goal
use Rattle.po_run.proofs.run.serve_any.Goals.{in-Naive, in-Slow, in-Gen}

pub returns-clause-complete : goal.returns-clause-complete
returns-clause-complete g c =
    subst (λ (s : Status). InMode c.args.request (λ mode. IsComplete mode s (g.S.Source.left c.args.source.now)
    (g.S.Source.faults c.args.source.now) (g.S.Source.faults c.match-request.source)
    (g.K.Sink.faults c.args.sink.now) (g.K.Sink.faults c.match-request.sink)))
    (sym c.without_counts.ensures.status)
    (elim c.match-request.branch [
      | in-Naive w ↦ rw (w.in-Naive.is, w.status-is, w.source-is, w.sink-is) w.run-status.ensures.complete
      | in-Slow w ↦ rw (w.in-Slow.is, w.status-is, w.source-is, w.sink-is) w.run-status-in-Slow.ensures.complete
      | in-Gen w ↦ rw w.in-Gen.is tt
    ])
