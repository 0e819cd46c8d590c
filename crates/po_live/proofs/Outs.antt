-- A list of sets of which one is read or written.
use Rattle.std.proofs.Common.{◌++◌, ◌≡◌, ℕ, zero, suc, ◌<◌, false, List, [], ◌∷◌, length, refl, ap, arith}
use Rattle.std.proofs.Common.{slice_index_or, slice_set, ◌∙◌}
use Rattle.std.specs.Prelude.{◌||◌, ◌&&◌, ◌==◌}
use Rattle.po_live.specs.declared.sets.LiveVars.{LiveVars}
use Rattle.po_model.specs.declared.var.Var.{Var}
use Rattle.po_live.specs.Sets.{holds, holds_at}
use Rattle.po_live.specs.Sets.{var_eq}
use Rattle.po_live.proofs.Preds.{zero_suc, suc_zero, suc_suc}

-- the set at a place
pub set_get : (ls : List LiveVars) (p : ℕ) (d : LiveVars) (v : Var) → p < length ls
    → holds (slice_index_or ls p d) v ≡ holds_at ls p v
set_get [] p d v h = absurd (omega arith)
set_get (x ∷ xs) zero d v h = refl
set_get (x ∷ xs) (suc p) d v h = set_get xs p d v (omega arith)

pub set_at : (ls : List LiveVars) (p : ℕ) (l : LiveVars) (v : Var) → p < length ls → l ≡ slice_index_or ls p l
    → holds l v ≡ holds_at ls p v
set_at ls p l v h e = ap (λ m. holds m v) e ∙ set_get ls p l v h

-- one more in the set at a place
pub set_put : (ls : List LiveVars) (p : ℕ) (n : LiveVars) (v : Var) → p < length ls
    → ((q : Var) → holds n q ≡ (var_eq v q || holds_at ls p q)) → (b : ℕ) (q : Var)
    → holds_at (slice_set ls p n) b q ≡ ((p == b && var_eq v q) || holds_at ls b q)
set_put [] p n v h e b q = absurd (omega arith)
set_put (x ∷ xs) zero n v h e zero q = e q
set_put (x ∷ xs) zero n v h e (suc b) q = rw (zero_suc b) refl
set_put (x ∷ xs) (suc p) n v h e zero q = rw (suc_zero p) refl
set_put (x ∷ xs) (suc p) n v h e (suc b) q = rw (suc_suc p b) (set_put xs p n v (omega arith) e b q)

-- one more set behind the others
pub sets_none : (ls : List LiveVars) (n : LiveVars) → ((q : Var) → holds n q ≡ false)
    → ((b : ℕ) (q : Var) → holds_at ls b q ≡ false) → (b : ℕ) (q : Var) → holds_at (ls ++ n ∷ []) b q ≡ false
sets_none [] n e h zero q = e q
sets_none [] n e h (suc b) q = refl
sets_none (x ∷ xs) n e h zero q = h zero q
sets_none (x ∷ xs) n e h (suc b) q = sets_none xs n e (λ c p. h (suc c) p) b q
