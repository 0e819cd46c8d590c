-- Lists of the blocks before a block, and the last instruction of a block.
use Rattle.std.proofs.Common.{◌≡◌, ℕ, zero, suc, ◌<◌, Bool, true, false, List, [], ◌∷◌, ◌++◌, length, refl, ap, arith}
use Rattle.std.proofs.Common.{slice_index_or, slice_set, ◌∙◌, Result, Ok, Err, OnOk, IfOk}
use Rattle.std.proofs.lemmas.Bool.Decides.{nat_tests}
use Rattle.std.specs.Prelude.{◌||◌, ◌&&◌, ◌==◌}
use Rattle.std.specs.List.{list_any}
use Rattle.std.specs.Global.{Vec}
use Rattle.std.proofs.lemmas.List.Folds.{list_any-append}
use Rattle.po_term.specs.declared.transfer.Instr.{Instr}
use Rattle.po_term.specs.Moves.{instr_of, instrs_of}
use Rattle.po_model.specs.Blocks.{block_ending}
use Rattle.po_live.specs.Flow.{pred_at}
use Rattle.po_model.specs.Parts.{ending_of}

pub on_ok : {A E : Type 0} (r : Result A E) {P Q : Type 0} → (P → Q) → OnOk r P → OnOk r Q
on_ok (Ok x) f h = f h
on_ok (Err x) f h = h

pub if_ok : {A E : Type 0} {P Q : A → Type 0} (r : Result A E) → ((x : A) → P x → Q x) → IfOk r P → IfOk r Q
if_ok (Ok x) f h = f x h
if_ok (Err x) f h = h

or_turned : (a b : Bool) → (a || (b || false)) ≡ (b || a)
or_turned true true = refl
or_turned true false = refl
or_turned false true = refl
or_turned false false = refl

pub zero_suc : (a : ℕ) → (zero == suc a) ≡ false
zero_suc a = grind (arith, nat_tests)

pub suc_zero : (a : ℕ) → (suc a == zero) ≡ false
suc_zero a = grind (arith, nat_tests)

pub suc_suc : (a b : ℕ) → (suc a == suc b) ≡ (a == b)
suc_suc a b = grind (arith, nat_tests)

-- a list of lists with one more index in the list at q
pub pred_put : (vs : List (Vec ℕ)) (q p : ℕ) (v w : Vec ℕ) → q < length vs
    → w.items ≡ (slice_index_or vs q v).items ++ p ∷ [] → (a b : ℕ)
    → pred_at (slice_set vs q w) a b ≡ ((q == a && p == b) || pred_at vs a b)
pred_put [] q p v w h i a b = absurd (omega arith)
pred_put (x ∷ xs) zero p v w h i zero b =
    ap (λ (is : List ℕ). list_any (λ y. y == b) is) i ∙ list_any-append (λ y. y == b) x.items (p ∷ [])
    ∙ or_turned (list_any (λ y. y == b) x.items) (p == b)
pred_put (x ∷ xs) zero p v w h i (suc a) b = rw (zero_suc a) refl
pred_put (x ∷ xs) (suc q) p v w h i zero b = rw (suc_zero q) refl
pred_put (x ∷ xs) (suc q) p v w h i (suc a) b = rw (suc_suc q a) (pred_put xs q p v w (omega arith) i a b)

-- with an empty list behind them
pub pred_none : (vs : List (Vec ℕ)) (v : Vec ℕ) → v.items ≡ [] → ((q p : ℕ) → pred_at vs q p ≡ false) → (q p : ℕ)
    → pred_at (vs ++ v ∷ []) q p ≡ false
pred_none [] v e h zero p = ap (λ (is : List ℕ). list_any (λ y. y == p) is) e
pred_none [] v e h (suc q) p = refl
pred_none (x ∷ xs) v e h zero p = h zero p
pred_none (x ∷ xs) v e h (suc q) p = pred_none xs v e (λ a b. h (suc a) b) q p

pub ending_last : (xs : List Instr) (n : ℕ) (d : Instr) → length xs ≡ suc n
    → block_ending (instrs_of xs) ≡ ending_of (instr_of (slice_index_or xs n d))
ending_last [] n d h = absurd (omega arith)
ending_last (x ∷ []) zero d h = refl
ending_last (x ∷ []) (suc n) d h = absurd (omega arith)
ending_last (x ∷ y ∷ ys) zero d h = absurd (omega arith)
ending_last (x ∷ y ∷ ys) (suc n) d h = ending_last (y ∷ ys) n d (omega arith)

-- the list at a place
pub pred_get : (vs : List (Vec ℕ)) (q : ℕ) (d : Vec ℕ) (p : ℕ) → q < length vs
    → list_any (λ x. x == p) (slice_index_or vs q d).items ≡ pred_at vs q p
pred_get [] q d p h = absurd (omega arith)
pred_get (x ∷ xs) zero d p h = refl
pred_get (x ∷ xs) (suc q) d p h = pred_get xs q d p (omega arith)
