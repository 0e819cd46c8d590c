-- Steps that proofs over a definition written as a `do` take.
use Rattle.std.proofs.Common.{◌≡◌, Result, Ok, Err, Bool, true, false, refl, ◌⊎◌, inl, inr}
use Rattle.std.specs.Prelude.{cond}
use Rattle.po_lines.specs.Faults.{◌>>=◌}

-- the two results of a choice
pub chosen : {A : Type 0} (b : Bool) (x y z : A) → cond b x y ≡ z → ((b ≡ true) × (x ≡ z)) ⊎ ((b ≡ false) × (y ≡ z))
chosen true x y z e = inl (refl, e)
chosen false x y z e = inr (refl, e)

-- both parts have no fault
pub bind_ok : {A B E : Type 0} (r : Result A E) (f : A → Result B E) (y : B) → (r >>= f) ≡ Ok y
    → (x : A) × (r ≡ Ok x) × (f x ≡ Ok y)
bind_ok (Ok x) f y e = (x, refl, e)
bind_ok (Err s) f y e = cc

-- the first part has a fault, or the second has it
pub bind_err : {A B E : Type 0} (r : Result A E) (f : A → Result B E) (s : E) → (r >>= f) ≡ Err s
    → (r ≡ Err s) ⊎ ((x : A) × (r ≡ Ok x) × (f x ≡ Err s))
bind_err (Ok x) f s e = inr (x, refl, e)
bind_err (Err t) f s e = inl cc

pub ok_is : {A E : Type 0} {x y : A} → ◌≡◌ {A = Result A E} (Ok x) (Ok y) → x ≡ y
ok_is e = cc

pub err_is : {A E : Type 0} {s t : E} → ◌≡◌ {A = Result A E} (Err s) (Err t) → s ≡ t
err_is e = cc

-- a fault is no value
pub not_ok : {A E : Type 0} {s : E} {y : A} → ◌≡◌ {A = Result A E} (Err s) (Ok y) → ⊥
not_ok e = cc

pub not_err : {A E : Type 0} {s : E} {y : A} → ◌≡◌ {A = Result A E} (Ok y) (Err s) → ⊥
not_err e = cc
