-- Sums over all views, and facts of each view, after a step of one pass.
use Rattle.std.proofs.Common.{◌≡◌, ℕ, zero, suc, ◌+◌, ◌≤◌, ◌≢◌, List, [], ◌∷◌, ◌++◌, set, sym, refl, ap, subst}
use Rattle.std.proofs.Common.{⊎_elim, arith}
use Rattle.std.specs.List.{sum_by}
use Rattle.std.proofs.lemmas.List.Sums.{sum_by-cons, sum_by_push}
use mathlib.Core.Option.{some, some-injective, some-ne-none}
use lib.ListN.{get_elem?}
use Rattle.atomic_table.proofs.Lists.{at_set, at_snoc}

module _ {V : Type 0} where
  pub total_set : (f : V → ℕ) (views : List V) (port : ℕ) (v w : V) → get_elem? views port ≡ some v
      → sum_by f (set views port w) + f v ≡ sum_by f views + f w
  total_set f [] port v w e = absurd (some-ne-none v (sym e))
  total_set f (x ∷ xs) zero v w e = let s : f x ≡ f v = ap f (some-injective x v e) in
      omega (arith, sum_by-cons f w xs, sum_by-cons f x xs)
  total_set f (x ∷ xs) (suc port) v w e = let s = total_set f xs port v w e in
      omega (arith, sum_by-cons f x (set xs port w), sum_by-cons f x xs)

  pub part_of : (f : V → ℕ) (views : List V) (port : ℕ) (v : V) → get_elem? views port ≡ some v → f v ≤ sum_by f views
  part_of f [] port v e = absurd (some-ne-none v (sym e))
  part_of f (x ∷ xs) zero v e = let s : f x ≡ f v = ap f (some-injective x v e) in omega (arith, sum_by-cons f x xs)
  part_of f (x ∷ xs) (suc port) v e = let s = part_of f xs port v e in omega (arith, sum_by-cons f x xs)

  abbrev pub All : (V → Type 0) → List V → Type 0
  All F views = (port : ℕ) (v : V) → get_elem? views port ≡ some v → F v

  pub all_set : (F : V → Type 0) (views : List V) (port : ℕ) (w : V) → F w → All F views → All F (set views port w)
  all_set F views port w mine all j u e
      = ⊎_elim (λ (x : (j ≡ port) × (w ≡ u)). subst F x.1 mine)
      (λ (x : (j ≢ port) × (get_elem? views j ≡ some u)). all j u x.1) (at_set views port j w u e)

  pub all_snoc : (F : V → Type 0) (views : List V) (w : V) → F w → All F views → All F (views ++ w ∷ [])
  all_snoc F views w mine all j u e = ⊎_elim (λ was. all j u was) (λ (same : w ≡ u). subst F same mine)
      (at_snoc views w u j e)

  pub none : (parts f : V → ℕ) (views : List V) → All (λ u. parts u ≡ 0 → f u ≡ 0) views → sum_by parts views ≡ 0
      → sum_by f views ≡ 0
  none parts f [] idle z = refl
  none parts f (x ∷ xs) idle z =
      let p : parts x ≡ 0 = omega (arith, sum_by-cons parts x xs) in
      let q : sum_by parts xs ≡ 0 = omega (arith, sum_by-cons parts x xs) in
      let a : f x ≡ 0 = idle 0 x refl p in
      let b : sum_by f xs ≡ 0 = none parts f xs (λ j u e. idle (suc j) u e) q in
      omega (arith, sum_by-cons f x xs)

  -- where one pass has every part, the others add nothing
  pub alone : (parts f : V → ℕ) (views : List V) (port : ℕ) (v : V) → get_elem? views port ≡ some v
      → All (λ u. parts u ≡ 0 → f u ≡ 0) views → sum_by parts views ≡ parts v → sum_by f views ≡ f v
  alone parts f [] port v e idle all = absurd (some-ne-none v (sym e))
  alone parts f (x ∷ xs) zero v e idle all =
      let s : f x ≡ f v = ap f (some-injective x v e) in
      let t : parts x ≡ parts v = ap parts (some-injective x v e) in
      let q : sum_by parts xs ≡ 0 = omega (arith, sum_by-cons parts x xs) in
      let b : sum_by f xs ≡ 0 = none parts f xs (λ j u e. idle (suc j) u e) q in
      omega (arith, sum_by-cons f x xs)
  alone parts f (x ∷ xs) (suc port) v e idle all =
      let m : parts v ≤ sum_by parts xs = part_of parts xs port v e in
      let p : parts x ≡ 0 = omega (arith, sum_by-cons parts x xs) in
      let q : sum_by parts xs ≡ parts v = omega (arith, sum_by-cons parts x xs) in
      let a : f x ≡ 0 = idle 0 x refl p in
      let b : sum_by f xs ≡ f v = alone parts f xs port v e (λ j u e. idle (suc j) u e) q in
      omega (arith, sum_by-cons f x xs)
