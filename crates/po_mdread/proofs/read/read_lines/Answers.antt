use Rattle.std.proofs.Common.{◌≡◌, ◌∙◌, sym, true}
use Rattle.po_lines.proofs.Turns.{all_read, read_on, fails_on, counts_on}
use Rattle.po_mdread.specs.Reading.{step, has_ended}
use Rattle.po_mdread.proofs.Ended.{whole_read}
use Rattle.po_mdread.proofs.read.read_lines.Goals as goal

-- a line with a fault
pub returns-in-Err-clause-gets : goal.returns-in-Err-clause-gets
returns-in-Err-clause-gets c =
    fails_on step c.lines.state.sofar c.lines.lines c.next_line.new.self c.in-Some.line c.in-Err.error _
    c.in-Some.ensures c.in-Err.ensures.gets c.lines.invariant.read

-- the line `end`
pub returns-then-has_ended-clause-gets : goal.returns-then-has_ended-clause-gets
returns-then-has_ended-clause-gets c =
    let read = read_on step c.lines.state.sofar c.in-Ok.next.sofar c.lines.lines c.next_line.new.self c.in-Some.line _
    c.in-Some.ensures c.in-Ok.ensures.gets c.lines.invariant.read in
    let ended : has_ended c.in-Ok.next.sofar ≡ true = sym c.has_ended.ensures ∙ c.if-has_ended.true in
    whole_read c.in-Ok.next.sofar c.next_line.new.self.lines _ ended read

-- another line without a fault
pub lines-preserved : goal.lines-preserved
lines-preserved c = record {
  kept = c.in-Ok.ensures.kept;
  read = read_on step c.lines.state.sofar c.in-Ok.next.sofar c.lines.lines c.next_line.new.self c.in-Some.line _
      c.in-Some.ensures c.in-Ok.ensures.gets c.lines.invariant.read;
  count = counts_on c.lines.lines c.next_line.new.self c.in-Some.line _ c.in-Some.ensures c.lines.invariant.count;
}

-- no line is left
pub returns-clause-gets : goal.returns-clause-gets
returns-clause-gets c = all_read step c.lines.state.sofar c.lines.lines c.next_line.new.self _ c.in_default.ensures
    c.lines.invariant.read
