use Rattle.std.proofs.Common.{◌≡◌, ◌++◌, drop}
use Rattle.po_entry.specs.EntryText.{template_text}
use Rattle.po_entry.proofs.print.push_template.Given as goal

-- what is printed so far, with what is still to come, is the whole
abbrev pub invariant-loop-piece : goal.invariant-loop-piece
invariant-loop-piece l = l.out.items ++ template_text (drop l.piece-index l.template) ≡ l.fn.out.items
    ++ template_text l.template
