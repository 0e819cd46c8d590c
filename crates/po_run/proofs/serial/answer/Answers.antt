use Rattle.po_compile.specs.Statuses.{IsComplete}
use Rattle.po_run.specs.Asked.{InMode, IsSerial}
use Rattle.po_run.proofs.Asking.{as_served}
use Rattle.po_run.proofs.serial.answer.Goals as goal

pub returns-in-Ok-Some-clause-complete : goal.returns-in-Ok-Some-clause-complete
returns-in-Ok-Some-clause-complete g c = as_served IsSerial c.args.words.now
    (λ r. InMode r (λ mode. IsComplete mode c.serve.result (g.S.Source.left c.args.source.now)
    (g.S.Source.faults c.args.source.now) (g.S.Source.faults c.serve.new.source) (g.K.Sink.faults c.args.sink.now)
    (g.K.Sink.faults c.serve.new.sink))) c.in-Ok-Some.request
    (rw c.in-Ok-Some.field-0-is at c.in-Ok-Some.ensures.asks) c.serve.ensures.complete
