-- A term that is read is whole.
use Rattle.std.specs.Prelude.{◌≡◌, true, [], length, Ok, IfOk}
use Rattle.po_pattern.specs.declared.operands.Operands.{Operands}
use Rattle.po_pattern.specs.declared.part.Turn.{Turn}
use Rattle.po_pattern.specs.Rests.{Rest, Read, skip_blanks}
use Rattle.po_pattern.specs.Terms.{wanted, steps, is_whole}

-- behind the first part and as many more as bytes are left, a whole part stands and no frame is open
abbrev pub EndsInTime : Rest → Operands → Type 0
EndsInTime r seen = (first : Read Turn) → wanted (skip_blanks r) seen ≡ Ok first
    → IfOk (steps (length r.bytes) (record { frames = []; turn = first })) (λ s. is_whole s ≡ true)
