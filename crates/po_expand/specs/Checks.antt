-- Whether each instruction fits an entry.
use Rattle.std.specs.Prelude.{ℕ, ◌<◌, ◌≡◌, Bool, true, false, List, length, Result, Ok, Err, is_some, ⊤}
use Rattle.std.specs.Global.{Vec}
use Rattle.po_model.specs.declared.machine.Machine.{Machine}
use Rattle.po_model.specs.Blocks.{PlainBlock, instrs_at}
use Rattle.po_model.specs.Fit.{fit}
use Rattle.po_model.specs.Fitted.{instr_at, IsRecognised, IsUnrecognised}
use Rattle.po_live.specs.Flags.{flag_at, flags_at}
use Rattle.po_expand.specs.declared.refusal.CheckRefusal.{CheckRefusal}
use Rattle.po_expand.specs.declared.refusal.CheckRefusal.TheVariants.{Unrecognised, OutOfMemory}
use Rattle.po_term.specs.Moves.{PlainInstr}

-- what a check answers
abbrev pub Checks : Machine → List PlainBlock → Result ⊤ CheckRefusal → Type 0
Checks m code (Ok v) = IsRecognised code m
Checks m code (Err (Unrecognised b i)) = IsUnrecognised code m b i
Checks m code (Err OutOfMemory) = ⊤

-- whether an entry fits the instruction i, where these flags say whether cc is live after each one
abbrev pub fits_in : Machine → List Bool → List PlainInstr → ℕ → Bool
fits_in m lives is i = is_some (fit m (flag_at lives i) (instr_at i is))

abbrev pub AllFit : Machine → List Bool → List PlainInstr → Type 0
AllFit m lives is = (i : ℕ) → i < length is → fits_in m lives is i ≡ true

pub record FirstUnfit (m : Machine) (lives : List Bool) (is : List PlainInstr) (i : ℕ) : Type 0 where
  pub there : i < length is
  pub unfit : fits_in m lives is i ≡ false
  pub before : (j : ℕ) → j < i → fits_in m lives is j ≡ true

-- what a check of the block b answers
abbrev pub ChecksBlock : Machine → List Bool → List PlainInstr → ℕ → Result ⊤ CheckRefusal → Type 0
ChecksBlock m lives is b (Ok v) = AllFit m lives is
ChecksBlock m lives is b (Err (Unrecognised c i)) = (c ≡ b) × FirstUnfit m lives is i
ChecksBlock m lives is b (Err OutOfMemory) = ⊤

-- each block before the block b fits
abbrev pub AllFitBefore : Machine → List (Vec Bool) → List PlainBlock → ℕ → Type 0
AllFitBefore m lives code b = (c : ℕ) → c < b → AllFit m (flags_at lives c) (instrs_at code c)

abbrev pub ChecksBlocks : Machine → List (Vec Bool) → List PlainBlock → Result ⊤ CheckRefusal → Type 0
ChecksBlocks m lives code (Ok v) = AllFitBefore m lives code (length code)
ChecksBlocks m lives code (Err (Unrecognised b i)) =
    AllFitBefore m lives code b × FirstUnfit m (flags_at lives b) (instrs_at code b) i
ChecksBlocks m lives code (Err OutOfMemory) = ⊤
