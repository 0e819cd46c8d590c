-- Sets of what may be live, and how they flow back through instructions.
use Rattle.std.specs.Prelude.{ℕ, zero, suc, ◌≡◌, Bool, false, true, not, ◌||◌, ◌&&◌, List, [], ◌∷◌}
use Rattle.std.specs.List.{list_any}
use Rattle.po_term.specs.declared.term.Reg.{Reg as Register}
use Rattle.po_term.specs.declared.term.Reg.TheVariants.{Fp}
use Rattle.po_term.specs.Simplified.{reg_eq}
use Rattle.po_model.specs.declared.pair.Live.{Live}
use Rattle.po_model.specs.declared.var.Var.{Var}
use Rattle.po_model.specs.declared.var.Var.TheVariants.{Reg, Cc}
use Rattle.po_model.specs.LiveAfter.{reads, sets, is_reg}
use Rattle.po_model.specs.LiveSets.{holds as in_set}
use Rattle.po_live.specs.declared.sets.LiveVars.{LiveVars}
use Rattle.po_term.specs.Moves.{PlainInstr}

-- whether r is one of these registers
abbrev pub has_reg : List Register → Register → Bool
has_reg rs r = list_any (λ q. reg_eq q r) rs

-- whether v is one of these registers, or cc where that is live
abbrev pub among : List Register → Bool → Var → Bool
among rs c (Reg r) = has_reg rs r
among rs c Cc = c

abbrev pub holds : LiveVars → Var → Bool
holds l v = among l.regs.items l.cc v

-- whether v is held at a place of a list
abbrev pub holds_at : List LiveVars → ℕ → Var → Bool
holds_at [] n v = false
holds_at (l ∷ ls) zero v = holds l v
holds_at (l ∷ ls) (suc n) v = holds_at ls n v

-- whether both are one
abbrev pub var_eq : Var → Var → Bool
var_eq (Reg r) q = is_reg r q
var_eq Cc (Reg q) = false
var_eq Cc Cc = true

abbrev pub is_fp : Var → Bool
is_fp v = var_eq (Reg Fp) v

-- what is live before xs, from what is live behind them
abbrev pub back : List PlainInstr → (Var → Bool) → Var → Bool
back [] live v = live v
back (x ∷ xs) live v = reads x v || (not (sets x v) && back xs live v)

abbrev pub nothing : Var → Bool
nothing v = false

-- one of xs sets v
abbrev pub sets_any : List PlainInstr → Var → Bool
sets_any xs v = list_any (λ x. sets x v) xs

-- the sets ls are what is live after each of xs, from what is live behind them all; fp is always
abbrev pub AreAfter : List PlainInstr → (Var → Bool) → List Live → Type 0
AreAfter [] live [] = Unit {0}
AreAfter [] live (l ∷ ls) = ⊥
AreAfter (x ∷ xs) live [] = ⊥
AreAfter (x ∷ xs) live (l ∷ ls) = ((v : Var) → in_set l v ≡ (is_fp v || back xs live v)) × AreAfter xs live ls
