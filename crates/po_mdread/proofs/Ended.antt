-- Behind `end` no line is looked at.
use Rattle.std.proofs.Common.{◌≡◌, List, [], ◌∷◌, true, Result, Ok, refl, sym, ◌∙◌}
use Rattle.po_lines.specs.Faults.{TextFault}
use Rattle.po_lines.specs.Lines.{Numbered}
use Rattle.po_lines.specs.Reading.{read_each}
use Rattle.po_mdread.specs.declared.sofar.Sofar.{Sofar}
use Rattle.po_mdread.specs.Reading.{step, has_ended}

step_ended : (s : Sofar) (l : Numbered) → has_ended s ≡ true → step s l ≡ Ok s
unfolding step
step_ended s l h = rw h refl

pub rest_ended : (s : Sofar) (ls : List Numbered) → has_ended s ≡ true → read_each step s ls ≡ Ok s
unfolding read_each
rest_ended s [] h = refl
rest_ended s (l ∷ ls) h = rw (step_ended s l h) (rest_ended s ls h)

-- the rest of the lines changes nothing
pub whole_read : (s : Sofar) (ls : List Numbered) (r : Result Sofar TextFault) → has_ended s ≡ true
    → read_each step s ls ≡ r → r ≡ Ok s
whole_read s ls r h read = sym read ∙ rest_ended s ls h
