use Rattle.std.proofs.Common.{◌≡◌, ◌++◌, drop}
use Rattle.std.specs.List.{flat_map}
use Rattle.po_settle.specs.Texts.{texts_of}
use Rattle.po_settle.specs.Lines.{line_of}
use Rattle.po_settle.proofs.lines.push_lines.Given as goal

-- what is printed so far, with what is still to come, is the whole
abbrev pub invariant-loop-text : goal.invariant-loop-text
invariant-loop-text l =
    l.out.items ++ flat_map line_of (texts_of (drop l.text-index l.texts))
    ≡ l.fn.out.items ++ flat_map line_of (texts_of l.texts)
