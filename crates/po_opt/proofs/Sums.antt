-- Sums over lists.
use Rattle.std.proofs.Common.{◌≡◌, ℕ, zero, suc, ◌+◌, ◌<◌, ◌≤◌, List, [], ◌∷◌, length, map, refl, arith}
use Rattle.std.specs.List.{All, sum_by}
use Rattle.std.proofs.lemmas.List.Elements.{All-head, All-tail}
use Rattle.std.proofs.lemmas.List.Sums.{sum_by-cons}

one_of : (a b : ℕ) (Q : Type 0) → (0 < a → Q) → (0 < b → Q) → 0 < a + b → Q
one_of zero b Q f g h = g (omega arith)
one_of (suc a) b Q f g h = f (omega arith)

module _ {A : Type 0} where
  pub sum_map : {B : Type 0} (f : B → ℕ) (g : A → B) (xs : List A) → sum_by f (map g xs) ≡ sum_by (λ x. f (g x)) xs
  sum_map f g [] = refl
  sum_map f g (x ∷ xs) =
      omega (arith, sum_map f g xs, sum_by-cons f (g x) (map g xs), sum_by-cons (λ y. f (g y)) x xs)

  pub sum_same : (f g : A → ℕ) (xs : List A) → All (λ x. f x ≡ g x) xs → sum_by f xs ≡ sum_by g xs
  sum_same f g [] a = refl
  sum_same f g (x ∷ xs) a =
      let here : f x ≡ g x = All-head (λ y. f y ≡ g y) x xs a in
      omega (
        arith,
        sum_same f g xs (All-tail (λ y. f y ≡ g y) x xs a),
        sum_by-cons f x xs,
        sum_by-cons g x xs,
      )

  -- as many as there are, where each counts one
  pub sum_ones : (f : A → ℕ) (xs : List A) → All (λ x. f x ≡ 1) xs → sum_by f xs ≡ length xs
  sum_ones f [] a = refl
  sum_ones f (x ∷ xs) a =
      let here : f x ≡ 1 = All-head (λ y. f y ≡ 1) x xs a in
      omega (arith, sum_ones f xs (All-tail (λ y. f y ≡ 1) x xs a), sum_by-cons f x xs)

  pub sum_one : (xs : List A) → sum_by (λ x. 1) xs ≡ length xs
  sum_one xs = sum_ones (λ x. 1) xs (λ k d h. refl)

  pub sum_zeros : (f : A → ℕ) (xs : List A) → All (λ x. f x ≡ 0) xs → sum_by f xs ≡ 0
  sum_zeros f [] a = refl
  sum_zeros f (x ∷ xs) a =
      let here : f x ≡ 0 = All-head (λ y. f y ≡ 0) x xs a in
      omega (arith, sum_zeros f xs (All-tail (λ y. f y ≡ 0) x xs a), sum_by-cons f x xs)

  pub sum_plus : (f g : A → ℕ) (xs : List A) → sum_by (λ x. f x + g x) xs ≡ sum_by f xs + sum_by g xs
  sum_plus f g [] = refl
  sum_plus f g (x ∷ xs) =
      omega (
        arith,
        sum_plus f g xs,
        sum_by-cons (λ y. f y + g y) x xs,
        sum_by-cons f x xs,
        sum_by-cons g x xs,
      )

  -- each is less than the other by one at most
  pub sums_near : (f g : A → ℕ) (xs : List A) → All (λ x. (f x ≤ g x) × (g x ≤ f x + 1)) xs
      → (sum_by f xs ≤ sum_by g xs) × (sum_by g xs ≤ sum_by f xs + length xs)
  sums_near f g [] a = (omega arith, omega arith)
  sums_near f g (x ∷ xs) a =
      let here = All-head (λ y. (f y ≤ g y) × (g y ≤ f y + 1)) x xs a in
      let low : f x ≤ g x = here.0 in
      let high : g x ≤ f x + 1 = here.1 in
      let more = sums_near f g xs (All-tail (λ y. (f y ≤ g y) × (g y ≤ f y + 1)) x xs a) in
      let lows : sum_by f xs ≤ sum_by g xs = more.0 in
      let highs : sum_by g xs ≤ sum_by f xs + length xs = more.1 in (
        omega (arith, sum_by-cons f x xs, sum_by-cons g x xs),
        omega (arith, sum_by-cons f x xs, sum_by-cons g x xs),
      )

  -- where a sum isn't 0, one of its terms isn't
  pub some_counts : (f : A → ℕ) (Q : Type 0) (xs : List A) → All (λ x. 0 < f x → Q) xs → 0 < sum_by f xs → Q
  some_counts f Q [] a h = absurd (omega arith)
  some_counts f Q (x ∷ xs) a h =
      let here : 0 < f x → Q = All-head (λ y. 0 < f y → Q) x xs a in
      let there : 0 < sum_by f xs → Q = some_counts f Q xs (All-tail (λ y. 0 < f y → Q) x xs a) in
      one_of (f x) (sum_by f xs) Q here there (omega (arith, sum_by-cons f x xs))
