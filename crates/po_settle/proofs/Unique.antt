-- Texts are sorted, each once, in one way.
use Rattle.std.proofs.Common.{◌≡◌, ℕ, zero, suc, ◌<◌, List, [], ◌∷◌, length, get_or, refl, sym, ◌∙◌, ap, subst, arith}
use mathlib.Core.Logic.{◌⊎◌, inl, inr}
use Rattle.std.proofs.lemmas.Cmp.{nat_list_cmp_total}
use Rattle.std.proofs.lemmas.List.Elements.{All-weaker, All-contains, Contains-get_or}
use Rattle.std.proofs.lemmas.Map.Keys.{sorted_head, sorted_tail}
use Rattle.std.specs.Cmp.Lexicographic.{slice_cmp}
use Rattle.std.specs.List.{All, AllByRecursion, Contains}
use Rattle.std.specs.List.Sorted.{IsStrictlySortedBy}
use Rattle.std.specs.Ordering.{nat_cmp, ordering_reverse}
use Rattle.std.specs.declared.cmp.Ordering.{Ordering}
use Rattle.std.specs.declared.cmp.Ordering.TheVariants.{Less, Equal, Greater}
use Rattle.po_settle.specs.Texts.{AreSorted}

abbrev order : List ℕ → List ℕ → Ordering
order = slice_cmp nat_cmp

-- Contains

none_in : {X : Type 0} (z : X) → Contains [] z → ⊥
none_in z (k, h, e) = omega arith

one_more : {X : Type 0} (y : X) (ys : List X) (z : X) → Contains (y ∷ ys) z → (y ≡ z) ⊎ Contains ys z
one_more y ys z (zero, h, e) = inl e
one_more y ys z (suc k, h, e) = inr (k, omega arith, e)

-- what stands behind the first is greater
greater : (x : List ℕ) (ys : List (List ℕ)) (z : List ℕ) → AllByRecursion (λ y. order x y ≡ Less) ys → Contains ys z
    → order x z ≡ Less
greater x [] z a c = absurd (none_in z c)
greater x (y ∷ ys) z a c =
    elim (one_more y ys z c) [ inl e ↦ subst (λ w. order x w ≡ Less) e a.0 | inr d ↦ greater x ys z a.1 d ]

turned : (r : Ordering) → r ≡ ordering_reverse r → r ≡ Less → ⊥
turned Less t e = (cc)
turned Equal t e = (cc)
turned Greater t e = (cc)

never_less : (x : List ℕ) → order x x ≡ Less → ⊥
never_less x e = turned (order x x) (nat_list_cmp_total.antisymm x x) e

never_both : (x y : List ℕ) → order x y ≡ Less → order y x ≡ Less → ⊥
never_both x y a b = never_less x (nat_list_cmp_total.trans x y x a b)

first_same : (x y : List ℕ) (xs ys : List (List ℕ)) → IsStrictlySortedBy order (x ∷ xs)
    → IsStrictlySortedBy order (y ∷ ys) → Contains (y ∷ ys) x → Contains (x ∷ xs) y → x ≡ y
first_same x y xs ys s t c d = elim (one_more y ys x c) [
  | inl e ↦ sym e
  | inr a ↦ elim (one_more x xs y d) [
    | inl e ↦ e
    | inr b ↦ absurd (never_both x y (greater x xs y (sorted_head order x xs s) b)
        (greater y ys x (sorted_head order y ys t) a))
  ]
]

behind_first : (x y : List ℕ) (xs ys : List (List ℕ)) → x ≡ y → IsStrictlySortedBy order (x ∷ xs)
    → All (Contains (y ∷ ys)) (x ∷ xs) → All (Contains ys) xs
behind_first x y xs ys e s all k d h =
    let z = get_or xs k d in
    elim (one_more y ys z (all (suc k) d (omega arith))) [
      | inl f ↦ absurd (never_less z (subst (λ w. order w z ≡ Less) (e ∙ f)
          (greater x xs z (sorted_head order x xs s) (Contains-get_or xs k d h))))
      | inr c ↦ c
    ]

one_list : (xs ys : List (List ℕ)) → IsStrictlySortedBy order xs → IsStrictlySortedBy order ys
    → All (Contains ys) xs → All (Contains xs) ys → xs ≡ ys
one_list [] [] s t a b = refl
one_list [] (y ∷ ys) s t a b = absurd (none_in y (b zero y (omega arith)))
one_list (x ∷ xs) [] s t a b = absurd (none_in x (a zero x (omega arith)))
one_list (x ∷ xs) (y ∷ ys) s t a b =
    let e : x ≡ y = first_same x y xs ys s t (a zero x (omega arith)) (b zero y (omega arith)) in
    ap (λ z. z ∷ xs) e ∙ ap (λ zs. y ∷ zs) (one_list xs ys (sorted_tail order x xs s) (sorted_tail order y ys t)
    (behind_first x y xs ys e s a) (behind_first y x ys xs (sym e) t b))

within : (wanted texts others : List (List ℕ)) → AreSorted wanted texts → AreSorted wanted others
    → All (Contains others) texts
within wanted texts others s t =
    All-weaker (Contains wanted) (Contains others) (λ x c. All-contains (Contains others) wanted x t.all c) texts
    s.each

-- the same texts are sorted in one way
pub one_sorted : (wanted texts others : List (List ℕ)) → AreSorted wanted texts → AreSorted wanted others
    → texts ≡ others
one_sorted wanted texts others s t =
    one_list texts others s.sorted t.sorted (within wanted texts others s t) (within wanted others texts t s)
