-- Sorted texts that all stand in a list are no more than the list has.
use Rattle.std.proofs.Common.{◌≡◌, ℕ, ◌≤◌, List, Bool, true, length, subst, sym}
use Rattle.std.specs.Cmp.{IsEquivalence}
use Rattle.std.specs.Cmp.Lexicographic.{slice_cmp}
use Rattle.std.specs.List.{All, Contains}
use Rattle.std.specs.List.Sorted.{IsStrictlySortedBy}
use Rattle.std.specs.Ordering.{nat_cmp, eq_by_cmp}
use Rattle.std.specs.Set.{is_member}
use Rattle.std.proofs.lemmas.Cmp.{nat_list_cmp_total, eq_by_cmp_equiv}
use Rattle.std.proofs.lemmas.List.Elements.{All-contains}
use Rattle.std.proofs.lemmas.List.Folds.{Any-from_list_any}
use Rattle.std.proofs.lemmas.Map.Keys.{IsDistinct-from_sorted}
use Rattle.std.proofs.lemmas.Map.Lookups.{exact_bytes}
use Rattle.std.proofs.lemmas.Map.Made.{length-le_from_is_member}
use Rattle.std.proofs.lemmas.Map.Views.{list_any-from_Contains, tells_apart}

abbrev same : List ℕ → List ℕ → Bool
same = eq_by_cmp (slice_cmp nat_cmp)

laws : IsEquivalence same
laws = eq_by_cmp_equiv nat_list_cmp_total

-- what is a member stands in the list
member_stands : (xs : List (List ℕ)) (q : List ℕ) → is_member same xs q ≡ true → Contains xs q
member_stands xs q e =
    let some = Any-from_list_any (same q) xs e in
    let at : q ≡ some.1 = tells_apart exact_bytes q some.1 some.4 in
    subst (Contains xs) (sym at) (some.0, some.2, some.3)

pub no_more : (xs ys : List (List ℕ)) → IsStrictlySortedBy (slice_cmp nat_cmp) xs → All (Contains ys) xs
    → length xs ≤ length ys
no_more xs ys sorted within =
    length-le_from_is_member laws xs ys (IsDistinct-from_sorted (slice_cmp nat_cmp) xs sorted)
    (λ q e. list_any-from_Contains laws q ys (All-contains (Contains ys) xs q within (member_stands xs q e)))
