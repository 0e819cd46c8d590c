use Rattle.po_compile.specs.Statuses.{IsComplete}
use Rattle.po_run.specs.Asked.{InMode, IsAny}
use Rattle.po_run.proofs.Asking.{as_asked}
use Rattle.po_run.proofs.run.answer.Goals as goal

pub returns-in-Ok-Some-clause-complete : goal.returns-in-Ok-Some-clause-complete
returns-in-Ok-Some-clause-complete g c = as_asked IsAny c.args.words.now
    (λ r. InMode r (λ mode. IsComplete mode c.serve_any.result.status (g.S.Source.left c.args.source.now)
    (g.S.Source.faults c.args.source.now) (g.S.Source.faults c.serve_any.new.source)
    (g.K.Sink.faults c.args.sink.now) (g.K.Sink.faults c.serve_any.new.sink)))
    c.in-Ok-Some.request (rw c.in-Ok-Some.field-0-is at c.in-Ok-Some.ensures.asks) c.serve_any.ensures.complete
