-- The text of the rule of a pair.
use Rattle.std.proofs.Common.{◌≡◌, ℕ, ◌+◌, [], ◌∷◌, List, Bool, true, false, ◌++◌, ◌<◌, ◌≤◌, take, drop, get_or, map}
use Rattle.std.proofs.Common.{length, subst, append_assoc, refl, sym, ◌∙◌, ap, arith}
use mathlib.Core.Logic.{inl, inr}
use Rattle.std.specs.Prelude.{Result, Ok, Err, IfOk, OnOk}
use Rattle.std.proofs.lemmas.List.Elements.{All-contains, All-get_or, All-map, All-weaker, All-contains_itself}
use Rattle.std.proofs.lemmas.List.{length-map, get_or-map, take_more, drop_more, drop_all, append-nil}
use Rattle.std.proofs.lemmas.List.Kept.{IsStrictlySortedBy-dedup, Contains-from_dedup, Any-dedup}
use Rattle.std.proofs.lemmas.List.Filters.{dedup_is}
use Rattle.std.proofs.lemmas.List.Sorted.{Contains-permutation, IsPermutation-sym}
use Rattle.std.proofs.lemmas.Cmp.{nat_list_cmp_total}
use Rattle.std.proofs.lemmas.Map.Text.{is_eq-slice_cmp}
use Rattle.std.proofs.lemmas.Slice.Eq.{bytes_eq-Decides}
use Rattle.std.specs.Str.{bytes_eq}
use Rattle.std.specs.Ordering.{nat_cmp, eq_by_cmp}
use Rattle.std.specs.declared.cmp.Ordering.{Ordering}
use Rattle.std.specs.declared.cmp.Ordering.TheVariants.{Less}
use Rattle.std.specs.Cmp.{IsTotalOrder, IsEquivalence}
use Rattle.std.specs.Cmp.Lexicographic.{slice_cmp}
use Rattle.std.specs.List.{AllByRecursion, All, Any, Contains, dedup}
use Rattle.std.specs.List.Sorted.{IsStrictlySortedBy, IsSorted, IsPermutation}
use Rattle.std.specs.List.Retain.{IsFiltered, DiffersFromLast}
use Rattle.std.specs.declared.alloc.Global.{Global}
use Rattle.std.specs.declared.vec.Vec.{Vec}
use Rattle.po_model.specs.declared.machine.Machine.{Machine}
use Rattle.po_model.specs.Pairs.{PlainPair, pair_of, WellFormedPair}
use Rattle.po_model.specs.declared.pair.Pair.{Pair}
use Rattle.po_model.specs.Holed.{PlainRule}
use Rattle.po_model.specs.Generalised.{generalised}
use Rattle.po_model.specs.RuleText.{rule_text}
use Rattle.po_model.specs.Canonical.{Canonical}
use Rattle.po_model.specs.Lookups.{AreCanonical, FitsRule}
use Rattle.po_settle.specs.Texts.{IsUnruled, texts_of, AreSorted}
use Rattle.po_fore.specs.declared.report.BlockReport.{BlockReport}
use Rattle.po_settle.specs.Reported.{report_texts, all_texts, all_misses}

-- a canonical rule that has the pair as an instance is the pair's rule
pub same_rule : (m : Machine) (rs : List PlainRule) (p : PlainPair) (r : PlainRule) → AreCanonical m rs
    → WellFormedPair p → FitsRule rs p r → r ≡ generalised m p
same_rule m rs p r a w f = sym ((All-contains (Canonical m) rs r a f.listed).rule p w f.instance)

pub text_by : {E : Type 0} (t : Result (Vec ℕ Global) E) (r s : PlainRule) → r ≡ s
    → IfOk t (λ v. v.items ≡ rule_text r) → IfOk t (λ v. v.items ≡ rule_text s)
text_by (Ok v) r s e h = h ∙ ap rule_text e
text_by (Err x) r s e h = tt

pub ticks_by : {A E : Type 0} (t : Result A E) (rs : List PlainRule) (p : PlainPair) (r : PlainRule) (k : ℕ)
    → FitsRule rs p r → OnOk t ((n : ℕ) × IsUnruled rs (p ∷ []) n × (k ≡ k + n))
ticks_by (Ok v) rs p r k f = (0, inr (r, f, refl), omega arith)
ticks_by (Err x) rs p r k f = tt

-- Texts in vectors

abbrev cmp_vec : Vec ℕ Global → Vec ℕ Global → Ordering
cmp_vec x y = slice_cmp nat_cmp x.items y.items

abbrev eq_vec : Vec ℕ Global → Vec ℕ Global → Bool
eq_vec x y = bytes_eq x.items y.items

total_vec : IsTotalOrder cmp_vec
total_vec = record {
  antisymm = λ x y. nat_list_cmp_total.antisymm x.items y.items;
  trans = λ x y z. nat_list_cmp_total.trans x.items y.items z.items;
  congr = λ x y z. nat_list_cmp_total.congr x.items y.items z.items;
}

same_bytes : (xs ys : List ℕ) → bytes_eq xs ys ≡ true → xs ≡ ys
same_bytes xs ys e = (bytes_eq-Decides xs ys).0 e

bytes_same : (xs ys : List ℕ) → xs ≡ ys → bytes_eq xs ys ≡ true
bytes_same xs ys e = (bytes_eq-Decides xs ys).1 e

both_ways : (a b : Bool) → (a ≡ true → b ≡ true) → (b ≡ true → a ≡ true) → a ≡ b
both_ways true b f g = sym (f refl)
both_ways false true f g = g refl
both_ways false false f g = refl

equiv_vec : IsEquivalence eq_vec
equiv_vec = record {
  refl = λ x. bytes_same x.items x.items refl;
  symm =
      λ x y. both_ways (eq_vec x y) (eq_vec y x) (λ e. bytes_same y.items x.items (sym (same_bytes x.items y.items e)))
      (λ e. bytes_same x.items y.items (sym (same_bytes y.items x.items e)));
  congr = λ x y z e. ap (λ t. bytes_eq t z.items) (same_bytes x.items y.items e);
}

ties : (x y : Vec ℕ Global) → eq_vec x y ≡ eq_by_cmp cmp_vec x y
ties x y = sym (is_eq-slice_cmp x.items y.items)

below_texts : (x : Vec ℕ Global) (ts : List (Vec ℕ Global)) → AllByRecursion (λ y. cmp_vec x y ≡ Less) ts
    → AllByRecursion (λ y. slice_cmp nat_cmp x.items y ≡ Less) (texts_of ts)
below_texts x [] h = tt
below_texts x (t ∷ ts) h = (h.0, below_texts x ts h.1)

strict_texts : (ts : List (Vec ℕ Global)) → IsStrictlySortedBy cmp_vec ts
    → IsStrictlySortedBy (slice_cmp nat_cmp) (texts_of ts)
unfolding IsStrictlySortedBy
strict_texts [] h = tt
strict_texts (t ∷ ts) h = (below_texts t ts h.0, strict_texts ts h.1)

contains_text : (ts : List (Vec ℕ Global)) (t : Vec ℕ Global) → Contains ts t → Contains (texts_of ts) t.items
contains_text ts t (k, h, e) = (
  k,
  omega (arith, length-map ts (λ (v : Vec ℕ Global). v.items)),
  get_or-map (λ (v : Vec ℕ Global). v.items) ts k t t.items h ∙ ap (λ (v : Vec ℕ Global). v.items) e,
)

any_text : (ts : List (Vec ℕ Global)) (t : Vec ℕ Global) → Any (λ y. eq_vec t y ≡ true) ts
    → Contains (texts_of ts) t.items
any_text ts t (k, y, h, g, e) =
    subst (Contains (texts_of ts)) (sym (same_bytes t.items y.items e)) (contains_text ts y (k, h, g))

pub sorted_texts : (xs ys zs : List (Vec ℕ Global)) → IsPermutation xs ys → IsSorted cmp_vec ys
    → IsFiltered (DiffersFromLast eq_vec) [] ys zs → AreSorted (texts_of xs) (texts_of zs)
sorted_texts xs ys zs p s f =
    let ds = dedup eq_vec ys in
    let d : zs ≡ ds = dedup_is eq_vec ys zs f in
    subst (λ z. AreSorted (texts_of xs) (texts_of z)) (sym d) (record {
      sorted = strict_texts ds (IsStrictlySortedBy-dedup total_vec ties ys s);
      each =
          All-map (Contains (texts_of xs)) (λ (v : Vec ℕ Global). v.items) ds
          (All-weaker (Contains ds) (λ x. Contains (texts_of xs) x.items)
          (λ x c. contains_text xs x
          (Contains-permutation ys xs x (IsPermutation-sym xs ys p) (Contains-from_dedup eq_vec ys x c))) ds
          (All-contains_itself ds));
      all =
          All-map (Contains (texts_of ds)) (λ (v : Vec ℕ Global). v.items) xs
          (All-weaker (Contains xs) (λ x. Contains (texts_of ds) x.items)
          (λ x c. any_text ds x (Any-dedup equiv_vec ys x (Contains-permutation xs ys x p c))) xs
          (All-contains_itself xs));
    })

map_push : {A B : Type 0} (f : A → B) (xs : List A) (x : A) → map f (xs ++ x ∷ []) ≡ map f xs ++ f x ∷ []
map_push f [] x = refl
map_push f (y ∷ ys) x = ap (λ zs. f y ∷ zs) (map_push f ys x)

-- a text behind the others
pub pushed_text : (xs ys : List (Vec ℕ Global)) (t : Vec ℕ Global) → ys ≡ xs ++ t ∷ []
    → texts_of ys ≡ texts_of xs ++ t.items ∷ []
pushed_text xs ys t e = ap texts_of e ∙ map_push (λ (v : Vec ℕ Global). v.items) xs t

-- one text more, of an element of a list
pub texts_more : {A : Type 0} (f : A → List ℕ) (xs : List A) (i : ℕ) (x : A) (start now next : List (List ℕ))
    → i < length xs → x ≡ get_or xs i x → now ≡ start ++ map f (take i xs) → next ≡ now ++ f x ∷ []
    → next ≡ start ++ map f (take (i + 1) xs)
texts_more f xs i x start now next h e a b =
    b ∙ ap (λ ts. ts ++ f x ∷ []) a ∙ append_assoc start (map f (take i xs)) (f x ∷ [])
    ∙ ap (λ ts. start ++ ts)
    (sym (map_push f (take i xs) x) ∙ ap (map f) (ap (λ y. take i xs ++ y ∷ []) e ∙ sym (take_more xs i x h)))

unruled_push : (rs : List PlainRule) (ps : List PlainPair) (p : PlainPair) (n k : ℕ) → IsUnruled rs ps n
    → IsUnruled rs (p ∷ []) k → IsUnruled rs (ps ++ p ∷ []) (n + k)
unruled_push rs [] p n k u v = subst (IsUnruled rs (p ∷ [])) (omega (arith, u)) v
unruled_push rs (q ∷ qs) p n k (inl (j, none, u, e)) v = inl (j + k, none, unruled_push rs qs p j k u v, omega arith)
unruled_push rs (q ∷ qs) p n k (inr (r, f, u)) v = inr (r, f, unruled_push rs qs p n k u v)

-- one miss more
pub unruled_more : (rs : List PlainRule) (ps : List Pair) (i : ℕ) (p : Pair) (n k : ℕ) → i < length ps
    → p ≡ get_or ps i p → IsUnruled rs (map pair_of (take i ps)) n → IsUnruled rs (pair_of p ∷ []) k
    → IsUnruled rs (map pair_of (take (i + 1) ps)) (n + k)
unruled_more rs ps i p n k h e u v =
    subst (λ qs. IsUnruled rs qs (n + k))
    (sym (map_push pair_of (take i ps) p)
    ∙ ap (map pair_of) (ap (λ y. take i ps ++ y ∷ []) e ∙ sym (take_more ps i p h)))
    (unruled_push rs (map pair_of (take i ps)) (pair_of p) n k u v)

pub pair_at : (ps : List Pair) (i : ℕ) (p : Pair) → i < length ps → p ≡ get_or ps i p
    → All WellFormedPair (map pair_of ps) → WellFormedPair (pair_of p)
pair_at ps i p h e a =
    subst WellFormedPair (get_or-map pair_of ps i p (pair_of p) h ∙ ap pair_of (sym e))
    (All-get_or WellFormedPair (map pair_of ps) i (pair_of p) (omega (arith, length-map ps pair_of)) a)

-- one report more

pub wanted_more : (m : Machine) (rs : List BlockReport) (i : ℕ) (r : BlockReport) (now next all : List (List ℕ))
    → i < length rs → r ≡ get_or rs i r → now ++ all_texts m (drop i rs) ≡ all → next ≡ now ++ report_texts m r
    → next ++ all_texts m (drop (i + 1) rs) ≡ all
wanted_more m rs i r now next all h e a b =
    let d : drop i rs ≡ r ∷ drop (i + 1) rs = drop_more rs i r h ∙ ap (λ x. x ∷ drop (i + 1) rs) (sym e) in
    ap (λ ts. ts ++ all_texts m (drop (i + 1) rs)) b
    ∙ (append_assoc now (report_texts m r) (all_texts m (drop (i + 1) rs))
    ∙ (ap (λ ts. now ++ all_texts m ts) (sym d) ∙ a))

unruled_append : (rs : List PlainRule) (ps qs : List PlainPair) (n k : ℕ) → IsUnruled rs ps n → IsUnruled rs qs k
    → IsUnruled rs (ps ++ qs) (n + k)
unruled_append rs [] qs n k u v = subst (IsUnruled rs qs) (omega (arith, u)) v
unruled_append rs (p ∷ ps) qs n k (inl (j, none, u, e)) v =
    inl (j + k, none, unruled_append rs ps qs j k u v, omega arith)
unruled_append rs (p ∷ ps) qs n k (inr (r, f, u)) v = inr (r, f, unruled_append rs ps qs n k u v)

-- what is counted of all misses, once it is known of those from the i-th report on
abbrev pub Rest : List PlainRule → List BlockReport → ℕ → ℕ → Type 0
Rest rules rs i n = (k : ℕ) → IsUnruled rules (all_misses (drop i rs)) k → IsUnruled rules (all_misses rs) (n + k)

pub rest_more : (rules : List PlainRule) (rs : List BlockReport) (i : ℕ) (r : BlockReport) (n j : ℕ) → i < length rs
    → r ≡ get_or rs i r → Rest rules rs i n → IsUnruled rules (map pair_of r.misses.items) j
    → Rest rules rs (i + 1) (n + j)
rest_more rules rs i r n j h e f u = λ k v.
    let d : drop i rs ≡ r ∷ drop (i + 1) rs = drop_more rs i r h ∙ ap (λ x. x ∷ drop (i + 1) rs) (sym e) in
    subst (IsUnruled rules (all_misses rs)) (omega arith)
    (f (j + k) (subst (λ xs. IsUnruled rules (all_misses xs) (j + k)) (sym d)
    (unruled_append rules (map pair_of r.misses.items) (all_misses (drop (i + 1) rs)) j k u v)))

pub rest_none : (rules : List PlainRule) (rs : List BlockReport) (i n : ℕ) → length rs ≤ i → Rest rules rs i n
    → IsUnruled rules (all_misses rs) n
rest_none rules rs i n h f =
    subst (IsUnruled rules (all_misses rs)) (omega arith)
    (f 0 (subst (λ xs. IsUnruled rules (all_misses xs) 0) (sym (drop_all i rs h)) refl))

pub wanted_none : (m : Machine) (rs : List BlockReport) (i : ℕ) (now all : List (List ℕ)) → length rs ≤ i
    → now ++ all_texts m (drop i rs) ≡ all → now ≡ all
wanted_none m rs i now all h e = sym (append-nil now) ∙ (ap (λ xs. now ++ all_texts m xs) (sym (drop_all i rs h)) ∙ e)

pub on_ok_any : {A E P : Type 0} (r : Result A E) → P → OnOk r P
on_ok_any (Ok x) p = p
on_ok_any (Err x) p = tt
