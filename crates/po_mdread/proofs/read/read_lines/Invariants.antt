use Rattle.std.proofs.Common.{◌≡◌, ◌+◌, length}
use Rattle.po_lines.specs.Reading.{read_each}
use Rattle.po_mdread.specs.declared.sofar.Sofar.TheVariants.{ToMachine}
use Rattle.po_mdread.specs.Reading.{step, IsState}
use Rattle.po_mdread.proofs.read.read_lines.Given as goal

-- the lines left, read behind what was read so far
abbrev pub invariant-lines : goal.invariant-lines
invariant-lines l = record {
  kept : IsState l.state;
  read : read_each step l.state.sofar l.lines.lines ≡ read_each step ToMachine l.fn.lines.lines;
  count : l.lines.line + length l.lines.lines ≡ l.fn.lines.line + length l.fn.lines.lines;
}

abbrev pub decreases-lines : goal.decreases-lines
decreases-lines l = length l.lines.lines
