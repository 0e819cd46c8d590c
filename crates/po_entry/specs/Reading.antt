-- The line of an entry.
use Rattle.std.specs.Prelude.{ℕ, List, [], codes, Result, Ok}
use Rattle.po_lines.specs.declared.fault.LineFault.{LineFault}
use Rattle.po_lines.specs.Faults.{◌>>=◌}
use Rattle.po_model.specs.declared.machine.Entry.{Entry}
use Rattle.po_pattern.specs.Rests.{Rest, skip_blanks}
use Rattle.po_pattern.specs.Seen.{none_seen}
use Rattle.po_entry.specs.Words.{keyword}
use Rattle.po_entry.specs.ListRules.{transfers, clobber_in}
use Rattle.po_entry.specs.Template.{arrow, template_in}

-- the whole line from its first byte on
abbrev pub line_start : List ℕ → Rest
line_start line = record { column = 1; bytes = line }

-- the entry of a line: `insn`, one to four transfers, `clobber cc` where it is marked, `=>`, and the template
unfoldable pub entry_in : List ℕ → Result Entry LineFault
entry_in line = do
  first ← keyword (codes "insn") (skip_blanks (line_start line))
  pattern ← transfers 4 [] first none_seen
  mark ← clobber_in pattern.value pattern.rest pattern.seen
  start ← arrow mark.rest
  template ← template_in mark.seen start
  Ok (record { pattern = pattern.value; clobbers = mark.value; template = template })
