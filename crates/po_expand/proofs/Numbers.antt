-- Names that come one behind the other.
use Rattle.std.proofs.Common.{◌≡◌, ℕ, ◌+◌, ◌<◌, List, [], ◌∷◌, ◌++◌, length, drop, get_or, refl, ap, sym, ◌∙◌, add-one}
use Rattle.std.proofs.Common.{drop-cons, suc, arith}
use Rattle.std.specs.Prelude.{nat_lt, not, None, Bool, true, false}
use Rattle.std.specs.List.{flat_map, position, position_or_len}
use Rattle.std.proofs.lemmas.Bool.{ltb-false}
use Rattle.std.proofs.lemmas.List.Sums.{prefix_len-le-length}
use Rattle.po_model.specs.Naive.{Text, with_name, names_behind}

-- the next element, and those behind it
pub next_of : {X : Type 0} (xs : List X) (i : ℕ) (x : X) → i < length xs → x ≡ get_or xs i x
    → drop i xs ≡ x ∷ drop (i + 1) xs
next_of xs i x h e = rw (add-one, drop-cons xs i x h) (ap (λ y. y ∷ drop (suc i) xs) (sym e))

behind_append : (names xs ys : List Text) → names_behind names (xs ++ ys) ≡ names_behind (names_behind names xs) ys
behind_append names [] ys = refl
behind_append names (x ∷ xs) ys = behind_append (with_name names x) xs ys

-- the names of the next element were added
pub next_names : {X : Type 0} (f : X → List Text) (xs : List X) (i : ℕ) (x : X) (names more all : List Text)
    → i < length xs → x ≡ get_or xs i x
    → more ≡ names_behind names (f x) → names_behind names (flat_map f (drop i xs)) ≡ all
    → names_behind more (flat_map f (drop (i + 1) xs)) ≡ all
next_names f xs i x names more all h e m r =
    ap (λ (ns : List Text). names_behind ns (flat_map f (drop (i + 1) xs))) m
    ∙ sym (behind_append names (f x) (flat_map f (drop (i + 1) xs)))
    ∙ ap (λ ys. names_behind names (flat_map f ys)) (sym (next_of xs i x h e))
    ∙ r

-- a name that isn't there would be the next one
pub not_there : {X : Type 0} (p : X → Bool) (xs : List X) (n : ℕ) → position p xs ≡ None → n ≡ length xs
    → n ≡ position_or_len p xs
not_there p xs n e h = by_test (nat_lt (position_or_len p xs) (length xs)) refl
  where
    by_test : (b : Bool) → nat_lt (position_or_len p xs) (length xs) ≡ b → n ≡ position_or_len p xs
    by_test true t = absurd (grind (arith, e, t))
    by_test false t =
        omega (arith, h, ltb-false (position_or_len p xs) (length xs) t, prefix_len-le-length (λ x. not (p x)) xs)
