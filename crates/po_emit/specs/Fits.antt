-- Whether an entry fits each instruction, as the writer meets them.
use Rattle.std.specs.Prelude.{ℕ, suc, ◌≡◌, Bool, true, List, [], ◌∷◌, is_some, ⊤}
use Rattle.std.specs.Global.{Vec}
use Rattle.po_term.specs.Moves.{PlainInstr}
use Rattle.po_model.specs.declared.machine.Machine.{Machine}
use Rattle.po_model.specs.Blocks.{PlainBlock}
use Rattle.po_model.specs.Fit.{fit}
use Rattle.po_live.specs.Flags.{flag_at, flags_at}

-- an entry fits each of these instructions of a block, the first of which has the number i
abbrev pub FitFrom : Machine → List Bool → ℕ → List PlainInstr → Type 0
FitFrom m lives i [] = ⊤
FitFrom m lives i (x ∷ xs) = (is_some (fit m (flag_at lives i) x) ≡ true) × FitFrom m lives (suc i) xs

-- an entry fits each instruction of these blocks, the first of which has the number b
abbrev pub FitBlocksFrom : Machine → List (Vec Bool) → ℕ → List PlainBlock → Type 0
FitBlocksFrom m lives b [] = ⊤
FitBlocksFrom m lives b (x ∷ xs) = FitFrom m (flags_at lives b) 0 x.instrs × FitBlocksFrom m lives (suc b) xs
