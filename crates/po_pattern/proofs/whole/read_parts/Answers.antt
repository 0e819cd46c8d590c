-- The parts that are left to read give what all of them give; a fault of the next one is theirs.
use Rattle.std.proofs.Common.{◌≡◌, sym, ◌∙◌, subst, arith, Result, ap}
use Rattle.po_lines.specs.declared.fault.LineFault.{LineFault}
use Rattle.po_lines.specs.Faults.{Fails}
use Rattle.po_pattern.specs.Terms.{Reading, steps}
use Rattle.po_pattern.specs.Readings.{reading_of}
use Rattle.po_pattern.proofs.Steps.{steps_none, fails_first, steps_whole}
use Rattle.po_pattern.proofs.whole.read_parts.Goals as goal
use Rattle.po_pattern.proofs.whole.read_parts.Goals.{then-parts-test+else-not-is_whole, else-parts-test}

pub returns-in-Err : goal.returns-in-Err
returns-in-Err c = let F : Result Reading LineFault → Type 0 = λ r. Fails c.in-Err.error r in
    subst F c.parts.invariant (fails_first c.parts.left (reading_of c.parts.reading) c.in-Err.error c.parts-test.true
    c.in-Err.ensures)

pub returns : goal.returns
returns c = elim c.parts-test.branch [
  | then-parts-test+else-not-is_whole w ↦ sym c.parts.invariant ∙ steps_whole c.parts.left
      (reading_of c.parts.reading) (sym w.is_whole.ensures ∙ w.if-not-is_whole.false)
  | else-parts-test w ↦ let none : c.parts.left ≡ 0 = omega arith in
      sym c.parts.invariant ∙ ap (λ k. steps k (reading_of c.parts.reading)) none
      ∙ steps_none (reading_of c.parts.reading)
]
