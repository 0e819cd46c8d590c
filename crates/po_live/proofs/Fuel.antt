-- A set that gets one more leaves less to be found.
use Rattle.std.proofs.Common.{◌≡◌, ℕ, zero, suc, ◌+◌, ◌<◌, ◌≤◌, Bool, true, false, List, [], ◌∷◌, refl, sym, ◌∙◌, ap}
use Rattle.std.proofs.Common.{arith}
use Rattle.std.specs.Prelude.{not, if◌then◌else◌, ◌||◌, ◌&&◌, ◌==◌}
use Rattle.std.proofs.lemmas.Bool.{true≢false, false≢true, eqb-true}
use Rattle.std.proofs.lemmas.Bool.Decides.{nat_tests}
use mathlib.Core.Logic.{◌⊎◌, inl, inr}
use Rattle.po_term.specs.declared.term.Reg.{Reg as Register}
use Rattle.po_term.specs.declared.term.Reg.TheVariants.{Virt, Fp, Rv, Arg}
use Rattle.po_term.specs.Simplified.{reg_eq}
use Rattle.po_model.specs.declared.var.Var.{Var}
use Rattle.po_model.specs.declared.var.Var.TheVariants.{Reg, Cc}
use Rattle.po_live.specs.Sets.{var_eq}
use Rattle.po_live.specs.Due.{is_among, missing, missing_below}

pub eq_refl : (n : ℕ) → (n == n) ≡ true
eq_refl n = grind (arith, nat_tests)

pub reg_eq_true : (a b : Register) → reg_eq a b ≡ true → a ≡ b
reg_eq_true (Virt m) (Virt n) e = ap Virt (eqb-true m n e)
reg_eq_true (Virt m) Fp e = absurd (false≢true e)
reg_eq_true (Virt m) Rv e = absurd (false≢true e)
reg_eq_true (Virt m) (Arg n) e = absurd (false≢true e)
reg_eq_true Fp (Virt n) e = absurd (false≢true e)
reg_eq_true Fp Fp e = refl
reg_eq_true Fp Rv e = absurd (false≢true e)
reg_eq_true Fp (Arg n) e = absurd (false≢true e)
reg_eq_true Rv (Virt n) e = absurd (false≢true e)
reg_eq_true Rv Fp e = absurd (false≢true e)
reg_eq_true Rv Rv e = refl
reg_eq_true Rv (Arg n) e = absurd (false≢true e)
reg_eq_true (Arg m) (Virt n) e = absurd (false≢true e)
reg_eq_true (Arg m) Fp e = absurd (false≢true e)
reg_eq_true (Arg m) Rv e = absurd (false≢true e)
reg_eq_true (Arg m) (Arg n) e = ap Arg (eqb-true m n e)

pub reg_eq_refl : (a : Register) → reg_eq a a ≡ true
reg_eq_refl (Virt m) = eq_refl m
reg_eq_refl Fp = refl
reg_eq_refl Rv = refl
reg_eq_refl (Arg m) = eq_refl m

pub var_eq_true : (a b : Var) → var_eq a b ≡ true → a ≡ b
var_eq_true (Reg r) (Reg q) e = ap Reg (reg_eq_true r q e)
var_eq_true (Reg r) Cc e = absurd (false≢true e)
var_eq_true Cc (Reg q) e = absurd (false≢true e)
var_eq_true Cc Cc e = refl

pub var_eq_refl : (a : Var) → var_eq a a ≡ true
var_eq_refl (Reg r) = reg_eq_refl r
var_eq_refl Cc = refl

module _ (l m : Var → Bool) (grows : (v : Var) → l v ≡ true → m v ≡ true) where
  one_less : (b c : Bool) → (b ≡ true → c ≡ true) → (if c then 0 else 1) ≤ (if b then 0 else 1)
  one_less true true h = omega arith
  one_less false true h = omega arith
  one_less false false h = omega arith
  one_less true false h = absurd (true≢false (sym (h refl)))

  pub missing_le : (us : List Var) → missing us m ≤ missing us l
  missing_le [] = omega arith
  missing_le (u ∷ us) = let a = one_less (l u) (m u) (grows u) in let b = missing_le us in omega arith

  pub missing_less : (us : List Var) (x : Var) → is_among us x ≡ true → l x ≡ false → m x ≡ true
      → missing us m < missing us l
  missing_less [] x i e f = absurd (false≢true i)
  missing_less (u ∷ us) x i e f = go (var_eq u x) refl (missing_less us x) (missing_le us) i
    where
      go : (b : Bool) → var_eq u x ≡ b
          → (is_among us x ≡ true → l x ≡ false → m x ≡ true → missing us m < missing us l)
          → missing us m ≤ missing us l → (b || is_among us x) ≡ true
          → (if m u then 0 else 1) + missing us m < (if l u then 0 else 1) + missing us l
      go true p ih b i = rw (var_eq_true u x p, e, f) (omega arith)
      go false p ih b i = let a = one_less (l u) (m u) (grows u) in let k = ih i e f in omega arith

module _ (old new : ℕ → Var → Bool) (grows : (b : ℕ) (v : Var) → old b v ≡ true → new b v ≡ true) (us : List Var) where
  pub below_le : (n : ℕ) → missing_below us new n ≤ missing_below us old n
  below_le zero = omega arith
  below_le (suc n) = let a = missing_le (old n) (new n) (grows n) us in let b = below_le n in omega arith

  pub below_less : (n b : ℕ) (x : Var) → b < n → is_among us x ≡ true → old b x ≡ false → new b x ≡ true
      → missing_below us new n < missing_below us old n
  below_less zero b x h i e f = absurd (omega arith)
  below_less (suc n) b x h i e f = go (cases n b h) (λ k. below_less n b x k i e f)
    where
      cases : (n b : ℕ) → b < suc n → (b ≡ n) ⊎ (b < n)
      cases n b h = grind arith

      go : (b ≡ n) ⊎ (b < n) → (b < n → missing_below us new n < missing_below us old n)
          → missing_below us new (suc n) < missing_below us old (suc n)
      go (inl p) k =
          let a = missing_less (old n) (new n) (grows n) us x i (ap (λ c. old c x) (sym p) ∙ e)
          (ap (λ c. new c x) (sym p) ∙ f) in
          let d = below_le n in omega arith
      go (inr p) k = let a = missing_le (old n) (new n) (grows n) us in let d = k p in omega arith

or_right : (a b : Bool) → b ≡ true → (a || b) ≡ true
or_right true b e = refl
or_right false b e = e

-- v at the place p
module _ (old new : ℕ → Var → Bool) (p : ℕ) (v : Var)
    (all : (b : ℕ) (q : Var) → new b q ≡ ((p == b && var_eq v q) || old b q)) (us : List Var) (n : ℕ) where
  grows : (b : ℕ) (q : Var) → old b q ≡ true → new b q ≡ true
  grows b q e = all b q ∙ or_right (p == b && var_eq v q) (old b q) e

  pub fuel_kept : missing_below us new n ≤ missing_below us old n
  fuel_kept = below_le old new grows us n

  here : (a b c : Bool) → a ≡ true → b ≡ true → ((a && b) || c) ≡ true
  here a b c e f = rw (e, f) refl

  pub fuel_less : p < n → is_among us v ≡ true → old p v ≡ false → missing_below us new n < missing_below us old n
  fuel_less h i e =
      below_less old new grows us n p v h i e
      (all p v ∙ here (p == p) (var_eq v v) (old p v) (eq_refl p) (var_eq_refl v))

pub was_false : (new old : Bool) → new ≡ not old → new ≡ true → old ≡ false
was_false new true e f = absurd (false≢true (sym e ∙ f))
was_false new false e f = refl
