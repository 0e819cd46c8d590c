-- P of each place of a list.
use Rattle.std.proofs.Common.{◌≡◌, ℕ, zero, suc, ◌+◌, ◌⊎◌, inl, inr, ⊎_elim, List, [], ◌∷◌, ◌++◌, length, Some}
use Rattle.std.proofs.Common.{slice_get, sym, subst, arith}
use Rattle.po_pool.specs.Worked.{EachAt}

-- an element stands in the first list, or in the second behind it
get_split : {A : Type 0} (xs ys : List A) (i : ℕ) (a : A) → slice_get (xs ++ ys) i ≡ Some a
    → (slice_get xs i ≡ Some a) ⊎ ((k : ℕ) × (i ≡ length xs + k) × (slice_get ys k ≡ Some a))
get_split [] ys i a e = inr (i, omega arith, e)
get_split (x ∷ xs) ys zero a e = inl e
get_split (x ∷ xs) ys (suc i) a e = ⊎_elim inl
    (λ (t : (k : ℕ) × (i ≡ length xs + k) × (slice_get ys k ≡ Some a)). inr (t.0, omega (arith, t.1), t.2))
    (get_split xs ys i a e)

pub each_append : {A : Type 0} (P : ℕ → A → Type 0) (xs ys : List A) → EachAt P xs
    → EachAt (λ k a. P (length xs + k) a) ys → EachAt P (xs ++ ys)
each_append P xs ys f g i a at = ⊎_elim (f i a)
    (λ (t : (k : ℕ) × (i ≡ length xs + k) × (slice_get ys k ≡ Some a)).
    subst (λ n. P n a) (sym t.1) (g t.0 a t.2)) (get_split xs ys i a at)

each_one : {A : Type 0} (P : ℕ → A → Type 0) (n : ℕ) (x : A) → P n x → EachAt (λ k a. P (n + k) a) (x ∷ [])
each_one P n x h zero a e =
    let same : x ≡ a = cc e in
    let place : n ≡ n + 0 = omega arith in
    subst (λ m. P m a) place (subst (P n) same h)
each_one P n x h (suc k) a e = absurd (cc e)

pub each_push : {A : Type 0} (P : ℕ → A → Type 0) (xs : List A) (x : A) → EachAt P xs → P (length xs) x
    → EachAt P (xs ++ x ∷ [])
each_push P xs x f h = each_append P xs (x ∷ []) f (each_one P (length xs) x h)
