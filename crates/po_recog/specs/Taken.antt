-- The operands that are filled on the way through a pattern, and what each thing that is found there makes of them.
use Rattle.std.specs.Prelude.{ℕ, Bool, true, false, ◌==◌, if◌then◌else◌, List, [], ◌∷◌, Option, Some, None, slice_get}
use Rattle.std.specs.Prelude.{slice_set}
use Rattle.po_word.specs.Exprs.{Within, is_so}
use Rattle.po_word.specs.Words.{signed}
use Rattle.po_term.specs.declared.term.Reg.{Reg as Register}
use Rattle.po_term.specs.declared.term.Sym.{Sym as Symbol}
use Rattle.po_term.specs.Simplified.{reg_eq}
use Rattle.po_model.specs.declared.machine.Bounds.{Bounds}
use Rattle.po_model.specs.Fit.{Found, AtNumber, AtOperand}
use Rattle.po_recog.specs.declared.answer.Operand.{Operand}
use Rattle.po_recog.specs.declared.answer.Operand.TheVariants.{Reg, Num, Label, Sym}
use Rattle.po_recog.specs.Operands.{operand_from}

abbrev pub Slots : Type 0
Slots = List (Option Operand)

abbrev pub same_operand : Operand → Operand → Bool
same_operand (Reg r) (Reg q) = reg_eq r q
same_operand (Num c) (Num d) = c == d
same_operand (Label l) (Label m) = l.0 == m.0
same_operand (Sym s) (Sym t) = s.0 == t.0
same_operand x y = false

-- a constant lies in the range, where there is one
abbrev pub lies_in : Option Bounds → Operand → Bool
lies_in (Some range) (Num c) = is_so (Within c range.lo range.hi)
lies_in range x = true

-- an operand at the place k, where this stands there so far
abbrev pub put_behind : Option (Option Operand) → ℕ → Option Bounds → Operand → Slots → Option Slots
put_behind None k range x ss = None
put_behind (Some None) k range x ss = if lies_in range x then Some (slice_set ss k (Some x)) else None
put_behind (Some (Some y)) k range x ss = if same_operand y x then Some ss else None

abbrev pub put : ℕ → Option Bounds → Operand → Slots → Option Slots
put k range x ss = put_behind (slice_get ss k) k range x ss

abbrev pub taken_one : Found ℕ Register Symbol → Slots → Option Slots
taken_one (AtNumber n c) ss = if is_so (Within c (signed n) (signed n)) then Some ss else None
taken_one (AtOperand k range x) ss = put k range (operand_from x) ss

abbrev pub and_on : Option Slots → (Slots → Option Slots) → Option Slots
and_on None f = None
and_on (Some ss) f = f ss

-- the operands after all that is found, where all of it fits
abbrev pub taken : List (Found ℕ Register Symbol) → Slots → Option Slots
taken [] ss = Some ss
taken (f ∷ fs) ss = and_on (taken_one f ss) (taken fs)

abbrev pub taken_if : Option (List (Found ℕ Register Symbol)) → Slots → Option Slots
taken_if None ss = None
taken_if (Some fs) ss = taken fs ss

-- what a walk that answers b leaves
abbrev pub outcome : Bool → Slots → Option Slots
outcome true ss = Some ss
outcome false ss = None
