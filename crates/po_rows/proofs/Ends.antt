-- A block of one instruction.
use Rattle.std.proofs.Common.{◌≡◌, List, [], ◌∷◌, length, arith}
use Rattle.po_term.specs.declared.transfer.Instr.{Instr}
use Rattle.po_term.specs.Moves.{instrs_of}
use Rattle.po_model.specs.Blocks.{EndsLast}

pub one_ends : (xs : List Instr) → length xs ≡ 1 → EndsLast (instrs_of xs)
one_ends [] e = tt
one_ends (x ∷ []) e = tt
one_ends (x ∷ y ∷ ys) e = absurd (omega arith)
