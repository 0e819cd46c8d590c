-- The operands seen behind places that are read one after the other, and which places may be read behind these
-- operands.
use Rattle.std.proofs.Common.{◌≡◌, true, List, [], ◌∷◌, ◌++◌, refl}
use Rattle.std.specs.Prelude.{⊤}
use Rattle.po_pattern.specs.declared.operands.Operands.{Operands}
use Rattle.po_pattern.specs.declared.operands.OperandKind.{OperandKind}
use Rattle.po_pattern.specs.declared.operands.OperandKind.TheVariants.{Register, Constant, Symbol, Label}
use Rattle.po_pattern.specs.Seen.{kind_of, with_operand, may_be, is_new}
use Rattle.po_model.specs.Entries.{Sort, OfReg, OfNum, OfSym, OfLabel, Place}

abbrev pub kind_at : Sort → OperandKind
kind_at OfReg = Register
kind_at OfNum = Constant
kind_at OfSym = Symbol
kind_at OfLabel = Label

-- the operands seen behind these places
abbrev pub noted : Operands → List Place → Operands
noted seen [] = seen
noted seen (p ∷ ps) = noted (with_operand seen (kind_at p.sort) p.digit) ps

-- a place that may stand behind these operands
pub record MayStand (seen : Operands) (p : Place) : Type 0 where
  pub may : may_be (kind_at p.sort) (kind_of seen p.digit) ≡ true
  pub new : p.ranged ≡ true → is_new (kind_of seen p.digit) ≡ true

-- each of these places may stand behind these operands and the places before it
abbrev pub Fits : Operands → List Place → Type 0
Fits seen [] = ⊤
Fits seen (p ∷ ps) = MayStand seen p × Fits (with_operand seen (kind_at p.sort) p.digit) ps

pub noted_more : (seen : Operands) (ps qs : List Place) → noted seen (ps ++ qs) ≡ noted (noted seen ps) qs
noted_more seen [] qs = refl
noted_more seen (p ∷ ps) qs = noted_more (with_operand seen (kind_at p.sort) p.digit) ps qs

pub fits_front : (seen : Operands) (ps qs : List Place) → Fits seen (ps ++ qs) → Fits seen ps
fits_front seen [] qs h = tt
fits_front seen (p ∷ ps) qs h = (h.0, fits_front (with_operand seen (kind_at p.sort) p.digit) ps qs h.1)

pub fits_back : (seen : Operands) (ps qs : List Place) → Fits seen (ps ++ qs) → Fits (noted seen ps) qs
fits_back seen [] qs h = h
fits_back seen (p ∷ ps) qs h = fits_back (with_operand seen (kind_at p.sort) p.digit) ps qs h.1
