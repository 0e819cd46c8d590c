-- Each name of a unit has its number.
use Rattle.std.proofs.Common.{◌≡◌, suc, ◌+◌, ◌<◌, ◌≤◌, Bool, true, false, List, [], ◌∷◌, ◌++◌, length, get_or, refl}
use Rattle.std.proofs.Common.{sym, ◌∙◌, ap, subst, arith, cond, length-append}
use Rattle.std.specs.Prelude.{All, nat_eq, not, ◌||◌, if◌then◌else◌}
use Rattle.std.specs.Cmp.Lexicographic.{pointwise, bytes_decides}
use Rattle.std.proofs.lemmas.Bool.{or_cases, false≢true}
use Rattle.std.proofs.lemmas.List.Folds.{list_any-append, list_any_at}
use Rattle.std.proofs.lemmas.List.Elements.{All-weaker}
use mathlib.Core.Logic.{◌⊎◌, inl, inr}
use Rattle.po_lines.specs.NameList.{has}
use Rattle.po_model.specs.Naive.{Text, with_name, names_behind, each_once, number_in}

or_left : (a b : Bool) → a ≡ true → a || b ≡ true
or_left true b e = refl
or_left false b e = absurd (false≢true e)

or_right : (a b : Bool) → b ≡ true → a || b ≡ true
or_right true b e = refl
or_right false b e = e

has_left : (n : Text) (xs ys : List Text) → has n xs ≡ true → has n (xs ++ ys) ≡ true
has_left n xs ys e = list_any-append (pointwise nat_eq n) xs ys ∙ or_left (has n xs) (has n ys) e

has_right : (n : Text) (xs ys : List Text) → has n ys ≡ true → has n (xs ++ ys) ≡ true
has_right n xs ys e = list_any-append (pointwise nat_eq n) xs ys ∙ or_right (has n xs) (has n ys) e

with_keeps : (n m : Text) (names : List Text) → has n names ≡ true → has n (with_name names m) ≡ true
with_keeps n m names e = by_test (has m names)
  where
    by_test : (b : Bool) → has n (if b then names else names ++ m ∷ []) ≡ true
    by_test true = e
    by_test false = has_left n names (m ∷ []) e

with_has : (n m : Text) (names : List Text) → pointwise nat_eq n m ≡ true → has n (with_name names m) ≡ true
with_has n m names e = by_test (has m names) refl
  where
    by_test : (b : Bool) → has m names ≡ b → has n (if b then names else names ++ m ∷ []) ≡ true
    by_test true f = subst (λ (x : Text). has x names ≡ true) (sym ((bytes_decides n m).0 e)) f
    by_test false f = has_right n names (m ∷ []) (or_left (pointwise nat_eq n m) false e)

behind_keeps : (n : Text) (names ns : List Text) → has n names ≡ true → has n (names_behind names ns) ≡ true
behind_keeps n names [] e = e
behind_keeps n names (m ∷ ns) e = behind_keeps n (with_name names m) ns (with_keeps n m names e)

behind_has : (n : Text) (names ns : List Text) → has n ns ≡ true → has n (names_behind names ns) ≡ true
behind_has n names [] e = absurd (false≢true e)
behind_has n names (m ∷ ns) e =
    go (λ f. behind_has n (with_name names m) ns f) (or_cases (pointwise nat_eq n m) (has n ns) e)
  where
    go : (has n ns ≡ true → has n (names_behind (with_name names m) ns) ≡ true)
        → (pointwise nat_eq n m ≡ true) ⊎ (has n ns ≡ true) → has n (names_behind (with_name names m) ns) ≡ true
    go later (inl f) = behind_keeps n (with_name names m) ns (with_has n m names f)
    go later (inr f) = later f

pub once_has : (n : Text) (ns : List Text) → has n ns ≡ true → has n (each_once ns) ≡ true
once_has n ns e = behind_has n [] ns e

-- each name of a list is in it
pub all_has : (ns : List Text) → All (λ n. has n ns ≡ true) ns
all_has ns =
    λ k d h. list_any_at (pointwise nat_eq (get_or ns k d)) ns k d h
    ((bytes_decides (get_or ns k d) (get_or ns k d)).1 refl)

pub all_once : (ns ms : List Text) → All (λ n. has n ns ≡ true) ms → All (λ n. has n (each_once ns) ≡ true) ms
all_once ns ms a = All-weaker (λ n. has n ns ≡ true) (λ n. has n (each_once ns) ≡ true) (λ n e. once_has n ns e) ms a

-- the number of a name that is there is below the length
pub number_below : (names : List Text) (n : Text) → has n names ≡ true → number_in names n < length names
number_below [] n e = absurd (false≢true e)
number_below (m ∷ ms) n e = by_test (λ f. number_below ms n f) (pointwise nat_eq n m) refl
  where
    by_test : (has n ms ≡ true → number_in ms n < length ms) → (b : Bool) → pointwise nat_eq n m ≡ b
        → cond (not b) (1 + number_in ms n) 0 < suc (length ms)
    by_test later true f = omega arith
    by_test later false f =
        let k : number_in ms n < length ms = later (sym (ap (λ (b : Bool). b || has n ms) f) ∙ e) in omega (arith, k)

with_few : (names : List Text) (m : Text) → length (with_name names m) ≤ length names + 1
with_few names m = by_test (has m names)
  where
    by_test : (b : Bool) → length (if b then names else names ++ m ∷ []) ≤ length names + 1
    by_test true = omega arith
    by_test false = omega (arith, length-append names (m ∷ []))

behind_few : (names ns : List Text) → length (names_behind names ns) ≤ length names + length ns
behind_few names [] = omega arith
behind_few names (m ∷ ns) = omega (arith, behind_few (with_name names m) ns, with_few names m)

pub once_few : (ns : List Text) → length (each_once ns) ≤ length ns
once_few ns = omega (arith, behind_few [] ns)
