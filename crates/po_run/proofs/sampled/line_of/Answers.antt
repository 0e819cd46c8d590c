use Rattle.std.proofs.Common.{ℕ, List, IfOk, subst}
use Rattle.po_run.specs.Sampled.{IsLineOn}
use Rattle.po_run.proofs.sampled.line_of.Goals as goal

pub returns : goal.returns
returns c = subst (λ (text : List ℕ). IfOk c.line_on.result
    (λ line. IsLineOn text c.args.seed c.args.units line.items)) c.as_bytes.ensures.value c.line_on.ensures
