-- The ten operands that a recogniser answers are written as what is found at the places of the pattern.
use Rattle.std.proofs.Common.{◌≡◌, ℕ, zero, suc, ◌+◌, arith, Bool, true, false, List, [], ◌∷◌, ◌++◌, Option, Some}
use Rattle.std.proofs.Common.{None, refl, ap, ◌∙◌}
use Rattle.std.specs.Prelude.{nat_lt, slice_get, codes}
use Rattle.std.specs.Option.{option_map}
use Rattle.std.specs.List.{flat_map}
use Rattle.std.proofs.lemmas.Bool.{ltb-true}
use Rattle.po_term.specs.declared.term.Reg.{Reg as Register}
use Rattle.po_term.specs.declared.term.Sym.{Sym as Symbol}
use Rattle.po_model.specs.declared.machine.Machine.{Machine}
use Rattle.po_model.specs.declared.machine.Entry.{Entry}
use Rattle.po_model.specs.declared.machine.Piece.{Piece}
use Rattle.po_model.specs.declared.machine.Piece.TheVariants.{Byte, Reg, Num, Label, Sym}
use Rattle.po_model.specs.Fit.{Found, Thing, ARegister, AConstant, ASymbol, ALabel, operand_of}
use Rattle.po_model.specs.UnitCodes.{PlainUnit}
use Rattle.po_model.specs.Assembly as model
use Rattle.po_recog.specs.declared.answer.Operand.{Operand}
use Rattle.po_recog.specs.Operands.{operand_from, operands_in, fit_from}
use Rattle.po_emit.specs.Texts.{slot_at, operand_text, digit_text, piece_text, filled, filled_from, line_with}

abbrev Places : Type 0
Places = List (Found ℕ Register Symbol)

module _ (m : Machine) (at : ℕ → ℕ) (u : PlainUnit) where
  thing_same : (o : Option (Thing ℕ Register Symbol))
      → operand_text m at u (option_map operand_from o) ≡ model.thing_text m at u o
  thing_same None = refl
  thing_same (Some (ARegister r)) = refl
  thing_same (Some (AConstant c)) = refl
  thing_same (Some (ASymbol s)) = refl
  thing_same (Some (ALabel l)) = refl

  past : (fs : Places) (k : ℕ) (b : Bool) → nat_lt k 10 ≡ b → b ≡ false → [] ≡ model.operand_text m at u fs k
  past fs k b e h = rw (e ∙ h) refl

  no_digit : (k : ℕ) (b : Bool) → nat_lt (10 + k) 10 ≡ b → b ≡ false
  no_digit k true e = let below = ltb-true (10 + k) 10 e in absurd (omega arith)
  no_digit k false e = refl

  operand_same : (fs : Places) (k : ℕ) → digit_text m at u (operands_in fs) k ≡ model.operand_text m at u fs k
  operand_same fs zero = thing_same (operand_of 0 fs)
  operand_same fs (suc zero) = thing_same (operand_of 1 fs)
  operand_same fs (suc (suc zero)) = thing_same (operand_of 2 fs)
  operand_same fs (suc (suc (suc zero))) = thing_same (operand_of 3 fs)
  operand_same fs (suc (suc (suc (suc zero)))) = thing_same (operand_of 4 fs)
  operand_same fs (suc (suc (suc (suc (suc zero))))) = thing_same (operand_of 5 fs)
  operand_same fs (suc (suc (suc (suc (suc (suc zero)))))) = thing_same (operand_of 6 fs)
  operand_same fs (suc (suc (suc (suc (suc (suc (suc zero))))))) = thing_same (operand_of 7 fs)
  operand_same fs (suc (suc (suc (suc (suc (suc (suc (suc zero)))))))) = thing_same (operand_of 8 fs)
  operand_same fs (suc (suc (suc (suc (suc (suc (suc (suc (suc zero))))))))) = thing_same (operand_of 9 fs)
  operand_same fs (suc (suc (suc (suc (suc (suc (suc (suc (suc (suc k)))))))))) =
      let n = suc (suc (suc (suc (suc (suc (suc (suc (suc (suc k))))))))) in
      let e : n ≡ 10 + k = omega arith in
      let none : nat_lt n 10 ≡ false = ap (λ j. nat_lt j 10) e ∙ no_digit k (nat_lt (10 + k) 10) refl in
      past fs n (nat_lt n 10) refl none

  piece_same : (fs : Places) (p : Piece)
      → piece_text (digit_text m at u (operands_in fs)) p ≡ model.piece_text m at u fs p
  piece_same fs (Byte b) = refl
  piece_same fs (Reg k) = operand_same fs k
  piece_same fs (Num k) = operand_same fs k
  piece_same fs (Label k) = operand_same fs k
  piece_same fs (Sym k) = operand_same fs k

  pieces_same : (fs : Places) (ps : List Piece)
      → filled m at u (operands_in fs) ps ≡ flat_map (model.piece_text m at u fs) ps
  pieces_same fs [] = refl
  pieces_same fs (p ∷ ps) = rw (piece_same fs p, pieces_same fs ps) refl

  filled_same : (fs : Places) (e : Option Entry)
      → filled_from m at u (operands_in fs) e ≡ model.filled m at u fs e
  filled_same fs None = refl
  filled_same fs (Some e) = pieces_same fs e.template

  line_same : (f : ℕ × Places) → line_with m at u (fit_from f) ≡ model.line_of m at u (Some f)
  line_same f = ap (λ (t : List ℕ). codes "  " ++ t ++ codes "\n") (filled_same f.1 (slice_get m.entries f.0))

  -- the line of what is recognised
  pub line_seen : (found : ℕ × List (Option Operand)) (fitted : Option (ℕ × Places))
      → Some found ≡ option_map fit_from fitted → line_with m at u found ≡ model.line_of m at u fitted
  line_seen found None e = cc
  line_seen found (Some f) e = ap (line_with m at u) (one found (fit_from f) e) ∙ line_same f
    where
      one : (x y : ℕ × List (Option Operand)) → Some x ≡ Some y → x ≡ y
      one x y h = cc

  pub line_unseen : (fitted : Option (ℕ × Places))
      → ◌≡◌ {A = Option (ℕ × List (Option Operand))} None (option_map fit_from fitted)
      → [] ≡ model.line_of m at u fitted
  line_unseen None e = refl
  line_unseen (Some f) e = cc
