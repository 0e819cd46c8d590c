use Rattle.std.proofs.Common.{◌≡◌, ◌++◌, drop}
use Rattle.po_key.specs.ShapeWords.{registers_words}
use Rattle.po_key.proofs.written.write_registers.Given as goal

-- what is written so far, with what is still to come, is the whole
abbrev pub invariant-loop-r : goal.invariant-loop-r
invariant-loop-r l =
    l.out.items ++ registers_words (drop l.r-index l.rs) ≡ l.initial.out.items ++ registers_words l.rs
