-- Whether cc is live, as one flag for each instruction.
use Rattle.std.specs.Prelude.{ℕ, zero, suc, Bool, false, List, [], ◌∷◌}
use Rattle.std.specs.Global.{Vec}
use Rattle.po_model.specs.declared.var.Var.TheVariants.{Cc}
use Rattle.po_live.specs.Sets.{back}
use Rattle.po_term.specs.Moves.{PlainInstr}

-- whether cc is live before xs, from whether it is behind them
abbrev pub cc_before : List PlainInstr → Bool → Bool
cc_before xs live = back xs (λ v. live) Cc

-- whether cc is live after each of xs, from whether it is behind them all
abbrev pub cc_after : List PlainInstr → Bool → List Bool
cc_after [] live = []
cc_after (x ∷ xs) live = cc_before xs live ∷ cc_after xs live

-- the flag at a place of a list
abbrev pub flag_at : List Bool → ℕ → Bool
flag_at [] n = false
flag_at (f ∷ fs) zero = f
flag_at (f ∷ fs) (suc n) = flag_at fs n

-- the flags of the block b
abbrev pub flags_at : List (Vec Bool) → ℕ → List Bool
flags_at [] b = []
flags_at (v ∷ vs) zero = v.items
flags_at (v ∷ vs) (suc b) = flags_at vs b
