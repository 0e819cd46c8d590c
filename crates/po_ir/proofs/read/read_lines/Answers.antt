use Rattle.po_lines.proofs.Turns.{all_read, read_on, fails_on, counts_on}
use Rattle.po_ir.specs.Reading.{step, state_shown}
use Rattle.po_ir.proofs.read.read_lines.Goals as goal

-- a line with a fault
pub returns-in-Err-clause-gets : goal.returns-in-Err-clause-gets
returns-in-Err-clause-gets c =
    fails_on step (state_shown c.lines.state) c.lines.lines c.next_line.new.self c.in-Some.line c.in-Err.error _
    c.in-Some.ensures c.in-Err.ensures.gets c.lines.invariant.read

-- a line without one
pub lines-preserved : goal.lines-preserved
lines-preserved c = record {
  kept = c.in-Ok.ensures.kept;
  read =
      read_on step (state_shown c.lines.state) (state_shown c.step.new.state) c.lines.lines c.next_line.new.self
      c.in-Some.line _ c.in-Some.ensures c.in-Ok.ensures.gets c.lines.invariant.read;
  count = counts_on c.lines.lines c.next_line.new.self c.in-Some.line _ c.in-Some.ensures c.lines.invariant.count;
}

-- no line is left
pub returns-clause-gets : goal.returns-clause-gets
returns-clause-gets c =
    all_read step (state_shown c.lines.state) c.lines.lines c.next_line.new.self _ c.in_default.ensures
    c.lines.invariant.read
