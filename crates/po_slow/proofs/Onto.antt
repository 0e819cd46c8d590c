-- A list whose front lies before it, the last first: what holds of the whole holds of both, and the other way round.
use Rattle.std.proofs.Common.{◌≡◌, ◌+◌, List, [], ◌∷◌, ◌++◌, length, reverse, refl, ◌∙◌, arith, append-nil}
use mathlib.Core.List.{reverse_aux}
use Rattle.std.specs.Prelude.{All}
use Rattle.std.proofs.lemmas.List.Elements.{All-nil, All-cons, All-head, All-tail}

module _ {X : Type 0} where
  abbrev pub onto : List X → List X → List X
  onto [] xs = xs
  onto (d ∷ ds) xs = onto ds (d ∷ xs)

  onto_turned : (xs ds ys : List X) → onto (reverse_aux xs ds) ys ≡ onto ds (xs ++ ys)
  onto_turned [] ds ys = refl
  onto_turned (x ∷ xs) ds ys = onto_turned xs (x ∷ ds) ys

  pub onto_reverse : (xs : List X) → onto (reverse xs) [] ≡ xs
  onto_reverse xs = onto_turned xs [] [] ∙ append-nil xs

  pub length_onto : (ds xs : List X) → length (onto ds xs) ≡ length ds + length xs
  length_onto [] xs = omega arith
  length_onto (d ∷ ds) xs = let ih = length_onto ds (d ∷ xs) in omega (arith, ih)

  pub all_split : (P : X → Type 0) (xs ys : List X) → All P (xs ++ ys) → All P xs × All P ys
  all_split P [] ys h = (All-nil P, h)
  all_split P (x ∷ xs) ys h =
      let ih = all_split P xs ys (All-tail P x (xs ++ ys) h) in
      (All-cons P x xs (All-head P x (xs ++ ys) h) ih.0, ih.1)

  pub all_onto : (P : X → Type 0) (ds xs : List X) → All P (onto ds xs) → All P ds × All P xs
  all_onto P [] xs h = (All-nil P, h)
  all_onto P (d ∷ ds) xs h =
      let ih = all_onto P ds (d ∷ xs) h in (All-cons P d ds (All-head P d xs ih.1) ih.0, All-tail P d xs ih.1)

  pub onto_all : (P : X → Type 0) (ds xs : List X) → All P ds → All P xs → All P (onto ds xs)
  onto_all P [] xs h i = i
  onto_all P (d ∷ ds) xs h i = onto_all P ds (d ∷ xs) (All-tail P d ds h) (All-cons P d xs (All-head P d ds h) i)

  -- other elements behind the front
  pub all_replaced : (P : X → Type 0) (ds xs ys : List X) → (All P xs → All P ys) → All P (onto ds xs)
      → All P (onto ds ys)
  all_replaced P ds xs ys f h = let two = all_onto P ds xs h in onto_all P ds ys two.0 (f two.1)
