-- Lists in which nothing stands twice.
use Rattle.std.proofs.Common.{◌≡◌, ℕ, zero, suc, List, [], ◌∷◌, ◌++◌, refl, sym, arith}
use Rattle.std.specs.Prelude.{◌≢◌, All, AllPairs, Contains}
use Rattle.std.proofs.lemmas.List.Elements.{All-nil, All-cons, All-append, All-contains, Contains-append_left}
use Rattle.std.proofs.lemmas.List.Elements.{Contains-append_right, Contains-append_cases}
use Rattle.po_term.proofs.FormLemmas.{pairs_more}
use mathlib.Core.Logic.{◌⊎◌, inl, inr}
use Rattle.po_slow.proofs.Onto.{all_split}

abbrev pub Differ : ℕ → ℕ → Type 0
Differ v w = v ≢ w

abbrev pub IsDistinct : List ℕ → Type 0
IsDistinct vs = AllPairs (λ v w. v ≢ w) vs

-- no element of one list is one of the other
abbrev pub Apart : List ℕ → List ℕ → Type 0
Apart vs ws = (v : ℕ) → Contains vs v → Contains ws v → ⊥

-- each element of one list is one of the other
abbrev pub Within : List ℕ → List ℕ → Type 0
Within vs ws = (v : ℕ) → Contains vs v → Contains ws v

pub nothing_in : (v : ℕ) → Contains [] v → ⊥
nothing_in v (k, l, e) = absurd (omega arith)

pub contains_here : (v : ℕ) (vs : List ℕ) → Contains (v ∷ vs) v
contains_here v vs = (0, omega arith, refl)

pub contains_more : (w : ℕ) (vs : List ℕ) (v : ℕ) → Contains vs v → Contains (w ∷ vs) v
contains_more w vs v (k, l, e) = (suc k, omega (arith, l), e)

pub contains_cases : (w : ℕ) (vs : List ℕ) (v : ℕ) → Contains (w ∷ vs) v → (w ≡ v) ⊎ Contains vs v
contains_cases w vs v (zero, l, e) = inl e
contains_cases w vs v (suc k, l, e) = inr (k, omega (arith, l), e)

pub distinct_nil : IsDistinct []
distinct_nil i j d a b = absurd (omega arith)

pub distinct_cons : (v : ℕ) (vs : List ℕ) → All (Differ v) vs → IsDistinct vs → IsDistinct (v ∷ vs)
distinct_cons v vs h i = (pairs_more Differ v vs).1 (h, i)

all_differ : (v : ℕ) (vs : List ℕ) → (Contains vs v → ⊥) → All (Differ v) vs
all_differ v [] h = All-nil (Differ v)
all_differ v (w ∷ vs) h =
    All-cons (Differ v) w vs (λ e. h (0, omega arith, sym e)) (all_differ v vs (λ c. h (contains_more w vs v c)))

pub distinct_split : (vs ws : List ℕ) → IsDistinct (vs ++ ws) → IsDistinct vs × IsDistinct ws × Apart vs ws
distinct_split [] ws h = (distinct_nil, h, λ v c d. nothing_in v c)
distinct_split (x ∷ vs) ws h =
    let more = (pairs_more Differ x (vs ++ ws)).0 h in
    let heads = all_split (Differ x) vs ws more.0 in
    let ih = distinct_split vs ws more.1 in
    (distinct_cons x vs heads.0 ih.0, ih.1, apart heads.1 ih.2)
  where
    by : All (Differ x) ws → Apart vs ws → (v : ℕ) → Contains ws v → (x ≡ v) ⊎ Contains vs v → ⊥
    by a b v d (inl e) = All-contains (Differ x) ws v a d e
    by a b v d (inr c) = b v c d

    apart : All (Differ x) ws → Apart vs ws → Apart (x ∷ vs) ws
    apart a b v c d = by a b v d (contains_cases x vs v c)

pub distinct_append : (vs ws : List ℕ) → IsDistinct vs → IsDistinct ws → Apart vs ws → IsDistinct (vs ++ ws)
distinct_append [] ws h i a = i
distinct_append (x ∷ vs) ws h i a =
    let more = (pairs_more Differ x vs).0 h in
    distinct_cons x (vs ++ ws)
    (All-append (Differ x) vs ws more.0 (all_differ x ws (a x (contains_here x vs))))
    (distinct_append vs ws more.1 i (λ v c. a v (contains_more x vs v c)))

pub within_append : (vs ws xs ys : List ℕ) → Within vs xs → Within ws ys → Within (vs ++ ws) (xs ++ ys)
within_append vs ws xs ys f g v c = go (Contains-append_cases vs ws v c)
  where
    go : Contains vs v ⊎ Contains ws v → Contains (xs ++ ys) v
    go (inl h) = Contains-append_left xs ys v (f v h)
    go (inr h) = Contains-append_right xs ys v (g v h)

-- a part that stands apart from what is before it and behind it
pub record Parted (before here behind : List ℕ) : Type 0 where
  pub before_here : Apart before here
  pub here_behind : Apart here behind

pub parted : (before here behind : List ℕ) → IsDistinct (before ++ (here ++ behind)) → Parted before here behind
parted before here behind h =
    let whole = distinct_split before (here ++ behind) h in
    record {
      before_here = λ v c d. whole.2 v c (Contains-append_left here behind v d);
      here_behind = (distinct_split here behind whole.1).2;
    }

-- a part of the part in its place
pub distinct_replaced : (before here other behind : List ℕ) → IsDistinct (before ++ (here ++ behind))
    → IsDistinct other → Within other here → IsDistinct (before ++ (other ++ behind))
distinct_replaced before here other behind h i f =
    let whole = distinct_split before (here ++ behind) h in
    let rest = distinct_split here behind whole.1 in
    distinct_append before (other ++ behind) whole.0
    (distinct_append other behind i rest.1 (λ v c. rest.2 v (f v c)))
    (λ v c d. whole.2 v c (within_append other behind here behind f (λ v c. c) v d))
