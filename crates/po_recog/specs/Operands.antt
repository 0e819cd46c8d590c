-- What is found at the places of a pattern, as the ten operands of an entry.
use Rattle.std.specs.Prelude.{ℕ, List, [], ◌∷◌, map, Option}
use Rattle.std.specs.Option.{option_map}
use Rattle.po_term.specs.declared.term.Reg.{Reg as Register}
use Rattle.po_term.specs.declared.term.Sym.{Sym as Symbol}
use Rattle.po_model.specs.Fit.{Found, Thing, ARegister, AConstant, ASymbol, ALabel, operand_of}
use Rattle.po_recog.specs.declared.answer.Operand.{Operand}
use Rattle.po_recog.specs.declared.answer.Operand.TheVariants.{Reg, Num, Label, Sym}
use Rattle.po_recog.specs.declared.answer.Fit.{Fit}

abbrev pub operand_from : Thing ℕ Register Symbol → Operand
operand_from (ARegister r) = Reg r
operand_from (AConstant c) = Num c
operand_from (ASymbol s) = Sym s
operand_from (ALabel l) = Label l

abbrev pub digits : List ℕ
digits = 0 ∷ 1 ∷ 2 ∷ 3 ∷ 4 ∷ 5 ∷ 6 ∷ 7 ∷ 8 ∷ 9 ∷ []

-- what the operand k stands for
abbrev pub operand_at : List (Found ℕ Register Symbol) → ℕ → Option Operand
operand_at fs k = option_map operand_from (operand_of k fs)

-- what the operands 0 to 9 stand for
abbrev pub operands_in : List (Found ℕ Register Symbol) → List (Option Operand)
operands_in fs = map (operand_at fs) digits

-- the number of an entry, with its ten operands
abbrev pub fit_from : (ℕ × List (Found ℕ Register Symbol)) → ℕ × List (Option Operand)
fit_from found = (found.0, operands_in found.1)

abbrev pub fit_of : Fit → ℕ × List (Option Operand)
fit_of f = (f.entry, f.operands.items)
