use Rattle.std.proofs.Common.{◌≡◌, ◌++◌, take, map}
use Rattle.po_entry.specs.EntryText.{entry_text}
use Rattle.po_mdread.specs.MachineText.{lines_text}
use Rattle.po_mdread.proofs.print.push_entries.Given as goal

-- what was there, and the lines of the entries so far
abbrev pub invariant-loop-entry : goal.invariant-loop-entry
invariant-loop-entry l = l.out.items ≡ l.fn.out.items ++ lines_text (map entry_text (take l.entry-index l.entries))
