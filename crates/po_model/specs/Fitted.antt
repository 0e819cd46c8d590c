-- The entry that each instruction of a code fits, with what is live after it in that code.
use Rattle.std.specs.Prelude.{ℕ, zero, suc, ◌≡◌, ◌↔◌, ◌<◌, Bool, IsTrue, List, [], ◌∷◌, length, Option, Some, None}
use mathlib.Core.Logic.{◌⊎◌}
use Rattle.po_term.specs.declared.term.Reg.{Reg}
use Rattle.po_term.specs.declared.term.Sym.{Sym}
use Rattle.po_model.specs.declared.machine.Machine.{Machine}
use Rattle.po_model.specs.declared.var.Var.TheVariants.{Cc}
use Rattle.po_model.specs.Blocks.{PlainBlock, instrs_at}
use Rattle.po_model.specs.Fit.{Found, fit}
use Rattle.po_model.specs.LiveAfter.{LiveAfter}
use Rattle.po_term.specs.Moves.{PlainInstr}

-- the instruction at a place of a block; behind its last one there is none
abbrev pub instr_at : ℕ → List PlainInstr → PlainInstr
instr_at i [] = []
instr_at zero (x ∷ xs) = x
instr_at (suc i) (x ∷ xs) = instr_at i xs

module _ (code : List PlainBlock) where
  -- whether cc is live after the instruction i of the block b, for each that is there
  abbrev pub TellsCc : (ℕ → ℕ → Bool) → Type 0
  TellsCc live = (b i : ℕ) → i < length (instrs_at code b) → IsTrue (live b i) ↔ LiveAfter code b i Cc

  -- the entry that the instruction i of the block b fits, where `live` tells whether cc is live
  abbrev pub fit_at : Machine → (ℕ → ℕ → Bool) → ℕ → ℕ → Option (ℕ × List (Found ℕ Reg Sym))
  fit_at m live b i = fit m (live b i) (instr_at i (instrs_at code b))

  abbrev pub FitsAt : Machine → (ℕ → ℕ → Bool) → ℕ → ℕ → Type 0
  FitsAt m live b i = (found : ℕ × List (Found ℕ Reg Sym)) × (fit_at m live b i ≡ Some found)

  -- each instruction fits an entry
  abbrev pub IsRecognised : Machine → Type 0
  IsRecognised m = (live : ℕ → ℕ → Bool) × TellsCc live × ((b i : ℕ) → i < length (instrs_at code b)
      → FitsAt m live b i)

  -- one place stands before another
  abbrev pub IsBefore : ℕ → ℕ → ℕ → ℕ → Type 0
  IsBefore c j b i = (c < b) ⊎ ((c ≡ b) × (j < i))

  -- the instruction i of the block b is the first that no entry fits
  pub record IsUnrecognised (m : Machine) (b i : ℕ) : Type 0 where
    pub live : ℕ → ℕ → Bool
    pub tells : TellsCc live
    pub there : i < length (instrs_at code b)
    pub unfit : fit_at m live b i ≡ None
    pub first : (c j : ℕ) → j < length (instrs_at code c) → IsBefore c j b i → FitsAt m live c j
