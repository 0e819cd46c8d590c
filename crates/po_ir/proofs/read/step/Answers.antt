use Rattle.po_lines.specs.Lines.{line_of}
use Rattle.po_ir.specs.Reading.{state_shown}
use Rattle.po_ir.proofs.FourWords.{step_four, fault_four}
use Rattle.po_ir.proofs.read.step.Goals as goal

-- a line is read by its first four words
pub returns-in-Ok-clause-gets : goal.returns-in-Ok-clause-gets
returns-in-Ok-clause-gets c =
    let told = rw c.requires.four at c.in-Ok.ensures.tells in
    let four = step_four (state_shown c.args.state.now) (line_of c.args.line.now) _ told in
    rw (four, ← c.end_column-end.ensures) c.words_line.ensures.gets

-- a line that is too long
pub returns-in-Err-clause-gets : goal.returns-in-Err-clause-gets
returns-in-Err-clause-gets c =
    let told = rw c.requires.four at c.in-Err.ensures.tells in
    rw c.in_line.ensures (fault_four (state_shown c.args.state.now) (line_of c.args.line.now) _ told)
