-- What is live at the start of a block and is due to be passed on to the blocks before it; and how much is still to be
-- found.
use Rattle.std.specs.Prelude.{ℕ, zero, suc, ◌+◌, ◌==◌, Bool, false, ◌&&◌, if◌then◌else◌, List, [], ◌∷◌, map}
use Rattle.std.specs.List.{list_any}
use Rattle.po_term.specs.declared.term.Reg.{Reg as Register}
use Rattle.po_term.specs.Simplified.{reg_eq}
use Rattle.po_model.specs.declared.var.Var.{Var}
use Rattle.po_model.specs.declared.var.Var.TheVariants.{Reg, Cc}
use Rattle.po_live.specs.declared.solve.Due.{Due}
use Rattle.po_live.specs.Sets.{var_eq}

-- whether v is due at the block b
abbrev pub is_due : List Due → ℕ → Var → Bool
is_due ds b v = list_any (λ d. d.block == b && var_eq d.var v) ds

abbrev pub is_in : List ℕ → ℕ → Bool
is_in bs b = list_any (λ x. x == b) bs

abbrev pub is_among : List Var → Var → Bool
is_among us v = list_any (λ u. var_eq u v) us

-- v is one of these registers
abbrev pub in_regs : List Register → Var → Bool
in_regs rs (Reg q) = list_any (λ r. reg_eq r q) rs
in_regs rs Cc = false

abbrev pub vars_of : List Due → List Var
vars_of ds = map (λ d. d.var) ds

-- how many of the us aren't in the set
abbrev pub missing : List Var → (Var → Bool) → ℕ
missing [] l = 0
missing (u ∷ us) l = (if l u then 0 else 1) + missing us l

-- in the sets of the blocks below n
abbrev pub missing_below : List Var → (ℕ → Var → Bool) → ℕ → ℕ
missing_below us out zero = 0
missing_below us out (suc n) = missing us (out n) + missing_below us out n
