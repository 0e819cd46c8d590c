use Rattle.po_sample.proofs.Samples.{statements_next, statements_end}
use Rattle.po_sample.proofs.unit.statements.Goals as goal

pub loop-j-preserved : goal.loop-j-preserved
loop-j-preserved c = statements_next c.loop-j.j c.loop-j.draws.0 c.statement.new.draws.0 c.loop-j.ops
    c.statement.new.ops _ c.loop-j-test.true c.loop-j.invariant c.in_ok-statement.ensures.ops
    c.in_ok-statement.ensures.last

pub returns : goal.returns
returns c = statements_end c.loop-j.j c.loop-j.draws.0 c.loop-j.ops _ c.loop-j-test.false c.loop-j.invariant
