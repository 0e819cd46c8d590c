-- The rules that are written are those of the pairs that were tried.
use Rattle.std.proofs.Common.{◌≡◌, ℕ, zero, suc, ◌+◌, ◌<◌, ◌≤◌, List, [], ◌∷◌, ◌++◌, Bool, true, false, cond, length}
use Rattle.std.proofs.Common.{map, get_or, refl, sym, ◌∙◌, ap, subst, arith}
use Rattle.std.specs.Prelude.{slice_get, Some}
use Rattle.std.specs.Arc.{arc_value}
use Rattle.std.specs.Cmp.{IsEquivalence}
use Rattle.std.specs.Cmp.Lexicographic.{slice_cmp}
use Rattle.std.specs.List.{All, Contains, sum_by}
use Rattle.std.specs.Ordering.{nat_cmp, eq_by_cmp}
use Rattle.std.proofs.lemmas.Cmp.{nat_list_cmp_total, eq_by_cmp_equiv}
use Rattle.std.proofs.lemmas.List.{length-append, length-map, get_or-map, map-append}
use Rattle.std.proofs.lemmas.List.Elements.{All-nil, All-head, All-tail, All-append, All-weaker, All-contains}
use Rattle.std.proofs.lemmas.List.Elements.{All-map, All-contains_itself, Contains-append_left, Contains-append_right}
use Rattle.std.proofs.lemmas.List.Sums.{sum_by-cons, sum_by-append}
use Rattle.std.proofs.lemmas.Map.Lookups.{exact_bytes}
use Rattle.std.proofs.lemmas.Map.Views.{tells_apart}
use Rattle.std.proofs.lemmas.Option.{slice_get_within, get_or_from_slice_get}
use Rattle.po_model.specs.declared.machine.Machine.{Machine}
use Rattle.po_model.specs.declared.pair.Pair.{Pair}
use Rattle.po_model.specs.Generalised.{generalised}
use Rattle.po_model.specs.Holed.{PlainRule, rule_of}
use Rattle.po_model.specs.Pairs.{PlainPair, pair_of}
use Rattle.po_model.specs.RuleText.{rule_text}
use Rattle.po_fore.specs.declared.report.Hit.{Hit}
use Rattle.po_fore.specs.declared.report.BlockReport.{BlockReport}
use Rattle.po_settle.specs.Reported.{hit_text, miss_text, report_texts, all_texts}
use Rattle.po_settle.specs.Texts.{AreSorted, rule_texts}
use Rattle.po_store.specs.declared.publisher.Entry.{Entry}
use Rattle.po_store.specs.Logged.{Logged}
use Rattle.po_opt.specs.Told.{IsHit}
use Rattle.po_opt.specs.Relooked.{HasRule}
use Rattle.po_opt.specs.Rules.{AreWritten}
use Rattle.po_opt.proofs.Distinct.{no_more}
use Rattle.po_opt.proofs.Reports.{IsReport, weight_in, TellOf, hit_count, miss_count}
use Rattle.po_opt.proofs.Sums.{sum_map, sum_one, sum_same, sum_plus, sum_zeros}

-- The same pairs have the same texts

abbrev same : List ℕ → List ℕ → Bool
same = eq_by_cmp (slice_cmp nat_cmp)

laws : IsEquivalence same
laws = eq_by_cmp_equiv nat_list_cmp_total

-- 1 where a text is this one
abbrev mark : List ℕ → List ℕ → ℕ
mark t x = cond (same x t) 1 0

true_if : (b : Bool) (Q : Type 0) → (b ≡ true → Q) → 0 < cond b 1 0 → Q
true_if true Q f h = f refl
true_if false Q f h = absurd (omega arith)

marked : (x t : List ℕ) → 0 < mark t x → x ≡ t
marked x t h = true_if (same x t) (x ≡ t) (λ e. tells_apart exact_bytes x t e) h

mark_self : (x t : List ℕ) → x ≡ t → mark t x ≡ 1
mark_self x t e = ap (λ b. cond b 1 0) (ap (λ y. same y t) e ∙ laws.refl t)

either : (a b : ℕ) (Q : Type 0) → (0 < a → Q) → (0 < b → Q) → 0 < a + b → Q
either zero b Q f g h = g (omega arith)
either (suc a) b Q f g h = f (omega arith)

module _ {A : Type 0} (f : A → List ℕ) where
  contains_head : (t : List ℕ) (x : A) (xs : List A) → f x ≡ t → Contains (map f (x ∷ xs)) t
  contains_head t x xs e = (0, omega arith, e)

  contains_tail : (t : List ℕ) (x : A) (xs : List A) → Contains (map f xs) t → Contains (map f (x ∷ xs)) t
  contains_tail t x xs (k, h, e) = (suc k, omega arith, e)

  stands : (t : List ℕ) (xs : List A) → 0 < sum_by (λ x. mark t (f x)) xs → Contains (map f xs) t
  stands t [] h = absurd (omega arith)
  stands t (x ∷ xs) h =
      either (mark t (f x)) (sum_by (λ y. mark t (f y)) xs) (Contains (map f (x ∷ xs)) t)
      (λ p. contains_head t x xs (marked (f x) t p)) (λ p. contains_tail t x xs (stands t xs p))
      (omega (arith, sum_by-cons (λ y. mark t (f y)) x xs))

  counts : (t : List ℕ) (xs : List A) → Contains (map f xs) t → 0 < sum_by (λ x. mark t (f x)) xs
  counts t [] (k, h, e) = absurd (omega arith)
  counts t (x ∷ xs) (zero, h, e) =
      let one : mark t (f x) ≡ 1 = mark_self (f x) t e in
      omega (arith, sum_by-cons (λ y. mark t (f y)) x xs)
  counts t (x ∷ xs) (suc k, h, e) =
      let others : 0 < sum_by (λ y. mark t (f y)) xs = counts t xs (k, omega arith, e) in
      omega (arith, sum_by-cons (λ y. mark t (f y)) x xs)

  -- where two lists weigh as much, whatever their elements weigh, the texts of the one are texts of the other
  pub texts_within : (xs ys : List A) → ((weight : A → ℕ) → sum_by weight xs ≡ sum_by weight ys)
      → All (Contains (map f ys)) (map f xs)
  texts_within xs ys e = All-weaker (Contains (map f xs)) (Contains (map f ys))
      (λ t c.
      let some : 0 < sum_by (λ x. mark t (f x)) xs = counts t xs c in
      let both : sum_by (λ x. mark t (f x)) xs ≡ sum_by (λ x. mark t (f x)) ys = e (λ x. mark t (f x)) in
      stands t ys (omega arith)) (map f xs) (All-contains_itself (map f xs))

-- Reports as lists of pairs

abbrev hit_pair : Hit → PlainPair
hit_pair h = pair_of h.pair

abbrev made_text : Machine → PlainPair → List ℕ
made_text m p = rule_text (generalised m p)

abbrev pairs_in : BlockReport → List PlainPair
pairs_in r = map hit_pair r.used.items ++ map pair_of r.misses.items

abbrev all_pairs : List BlockReport → List PlainPair
all_pairs [] = []
all_pairs (r ∷ rs) = pairs_in r ++ all_pairs rs

hit_texts : (m : Machine) (hs : List Hit) → All (IsHit m) hs
    → map hit_text hs ≡ map (made_text m) (map hit_pair hs)
hit_texts m [] a = refl
hit_texts m (h ∷ hs) a =
    let first : IsHit m h = All-head (IsHit m) h hs a in
    ap (λ t. t ∷ map hit_text hs) (ap rule_text first.rule)
    ∙ ap (λ ts. made_text m (hit_pair h) ∷ ts) (hit_texts m hs (All-tail (IsHit m) h hs a))

miss_texts : (m : Machine) (ps : List Pair) → map (miss_text m) ps ≡ map (made_text m) (map pair_of ps)
miss_texts m [] = refl
miss_texts m (p ∷ ps) = ap (λ ts. miss_text m p ∷ ts) (miss_texts m ps)

texts_are : (m : Machine) (reports : List BlockReport) → All (IsReport m) reports
    → all_texts m reports ≡ map (made_text m) (all_pairs reports)
texts_are m [] a = refl
texts_are m (r ∷ rs) a =
    let first : IsReport m r = All-head (IsReport m) r rs a in
    let f = made_text m in
    let here : report_texts m r ≡ map f (pairs_in r) =
    ap (λ ts. ts ++ map (miss_text m) r.misses.items) (hit_texts m r.used.items first.hits)
    ∙ ap (λ ts. map f (map hit_pair r.used.items) ++ ts) (miss_texts m r.misses.items)
    ∙ sym (map-append f (map hit_pair r.used.items) (map pair_of r.misses.items)) in
    ap (λ ts. ts ++ all_texts m rs) here
    ∙ ap (λ ts. map f (pairs_in r) ++ ts) (texts_are m rs (All-tail (IsReport m) r rs a))
    ∙ sym (map-append f (pairs_in r) (all_pairs rs))

pairs_weigh : (weight : PlainPair → ℕ) (reports : List BlockReport)
    → sum_by (weight_in weight) reports ≡ sum_by weight (all_pairs reports)
pairs_weigh weight [] = refl
pairs_weigh weight (r ∷ rs) = omega (
  arith,
  pairs_weigh weight rs,
  sum_by-cons (weight_in weight) r rs,
  sum_by-append weight (pairs_in r) (all_pairs rs),
  sum_by-append weight (map hit_pair r.used.items) (map pair_of r.misses.items),
  sum_map weight hit_pair r.used.items,
  sum_map weight pair_of r.misses.items,
)

through : (xs ys zs : List (List ℕ)) → All (Contains ys) xs → All (Contains zs) ys → All (Contains zs) xs
through xs ys zs h k =
    All-weaker (Contains ys) (Contains zs) (λ t c. All-contains (Contains zs) ys t k c) xs h

-- the texts of reports which tell of these pairs are those of the rules of these pairs
pub record AreTexts (m : Machine) (reports : List BlockReport) (pairs : List PlainPair) : Type 0 where
  pub each : All (Contains (rule_texts m pairs)) (all_texts m reports)
  pub all : All (Contains (all_texts m reports)) (rule_texts m pairs)

pub told_texts : (m : Machine) (reports : List BlockReport) (pairs : List PlainPair) → All (IsReport m) reports
    → TellOf reports pairs → AreTexts m reports pairs
told_texts m reports pairs are tell =
    let f = made_text m in
    let e : all_texts m reports ≡ map f (all_pairs reports) = texts_are m reports are in
    let weigh : (weight : PlainPair → ℕ) → sum_by weight (all_pairs reports) ≡ sum_by weight pairs =
    λ weight. sym (pairs_weigh weight reports) ∙ tell weight in
    record {
      each = subst (λ ts. All (Contains (map f pairs)) ts) (sym e) (texts_within f (all_pairs reports) pairs weigh);
      all = subst (λ ts. All (Contains ts) (map f pairs)) (sym e)
          (texts_within f pairs (all_pairs reports) (λ weight. sym (weigh weight)));
    }

-- where two lists have the same texts, what is sorted of the one is sorted of the other
pub sorted_as : (wanted others texts : List (List ℕ)) → All (Contains others) wanted → All (Contains wanted) others
    → AreSorted wanted texts → AreSorted others texts
sorted_as wanted others texts h k s = record {
  sorted = s.sorted;
  each = through texts wanted others s.each h;
  all = through others wanted texts k s.all;
}

one_each : (r : BlockReport) → weight_in (λ p. 1) r ≡ length r.used.items + length r.misses.items
one_each r = omega (arith, sum_one r.used.items, sum_one r.misses.items)

-- each try is a hit or a miss
pub tries_are : (reports : List BlockReport) (pairs : List PlainPair) → TellOf reports pairs
    → hit_count reports + miss_count reports ≡ length pairs
tries_are reports pairs tell =
    let ones : sum_by (weight_in (λ p. 1)) reports
    ≡ sum_by (λ (r : BlockReport). length r.used.items + length r.misses.items) reports =
    sum_same (weight_in (λ p. 1)) (λ (r : BlockReport). length r.used.items + length r.misses.items) reports
    (λ k d h. one_each (get_or reports k d)) in
    omega (
      arith,
      ones,
      tell (λ p. 1),
      sum_one pairs,
      sum_plus (λ (r : BlockReport). length r.used.items) (λ (r : BlockReport). length r.misses.items) reports,
    )

-- How many rules there are

-- the rules of all hits of a report are among these
abbrev pub HasRules : List PlainRule → BlockReport → Type 0
HasRules rules r = All (HasRule rules) r.used.items

-- the text of the rule at a place
abbrev text_at : List PlainRule → ℕ → List ℕ
text_at [] k = []
text_at (r ∷ rs) zero = rule_text r
text_at (r ∷ rs) (suc k) = text_at rs k

text_there : (rs : List PlainRule) (k : ℕ) (d : PlainRule) → k < length rs
    → text_at rs k ≡ rule_text (get_or rs k d)
text_there [] k d h = absurd (omega arith)
text_there (r ∷ rs) zero d h = refl
text_there (r ∷ rs) (suc k) d h = text_there rs k d (omega arith)

contains_map : {A B : Type 0} (f : A → B) (xs : List A) (i : ℕ) (x : A) → slice_get xs i ≡ Some x
    → Contains (map f xs) (f x)
contains_map f xs i x e =
    let within : i < length xs = slice_get_within xs i x e in (
      i,
      omega (arith, length-map xs f),
      get_or-map f xs i x (f x) within ∙ ap f (get_or_from_slice_get xs i x x e),
    )

-- the texts at the places of the log
abbrev log_texts : List PlainRule → List Entry → List (List ℕ)
log_texts rules log = map (λ (e : Entry). text_at rules e.place) log

hit_logged : (rules : List PlainRule) (log : List Entry) (h : Hit) → Logged rules log → HasRule rules h
    → Contains (log_texts rules log) (hit_text h)
hit_logged rules log h logged (k, within, e) =
    let at = logged.places k within in
    let there : text_at rules at.1.place ≡ hit_text h =
    ap (text_at rules) at.3 ∙ text_there rules k (rule_of (arc_value h.rule)) within ∙ ap rule_text e in
    subst (Contains (log_texts rules log)) there
    (contains_map (λ (e : Entry). text_at rules e.place) log at.0 at.1 at.2)

abbrev missed_texts : Machine → List BlockReport → List (List ℕ)
missed_texts m [] = []
missed_texts m (r ∷ rs) = map (miss_text m) r.misses.items ++ missed_texts m rs

missed_length : (m : Machine) (reports : List BlockReport) → length (missed_texts m reports) ≡ miss_count reports
missed_length m [] = refl
missed_length m (r ∷ rs) = omega (
  arith,
  missed_length m rs,
  length-map r.misses.items (miss_text m),
  length-append (map (miss_text m) r.misses.items) (missed_texts m rs),
  sum_by-cons (λ (q : BlockReport). length q.misses.items) r rs,
)

widen : (xs ys zs ts : List (List ℕ)) → All (Contains (xs ++ zs)) ts → All (Contains (xs ++ (ys ++ zs))) ts
widen xs ys zs ts a = All-weaker (Contains (xs ++ zs)) (Contains (xs ++ (ys ++ zs)))
    (λ t c. All-contains (Contains (xs ++ (ys ++ zs))) (xs ++ zs) t
    (All-append (Contains (xs ++ (ys ++ zs))) xs zs
    (All-weaker (Contains xs) (Contains (xs ++ (ys ++ zs))) (λ u d. Contains-append_left xs (ys ++ zs) u d) xs
    (All-contains_itself xs))
    (All-weaker (Contains zs) (Contains (xs ++ (ys ++ zs)))
    (λ u d. Contains-append_right xs (ys ++ zs) u (Contains-append_right ys zs u d)) zs (All-contains_itself zs))) c)
    ts a

module _ (m : Machine) (rules : List PlainRule) (log : List Entry) (logged : Logged rules log) where
  known_texts : (reports : List BlockReport) → All (HasRules rules) reports
      → All (Contains (log_texts rules log ++ missed_texts m reports)) (all_texts m reports)
  known_texts [] a = All-nil (Contains (log_texts rules log ++ []))
  known_texts (r ∷ rs) a =
      let xs = log_texts rules log in
      let ys = map (miss_text m) r.misses.items in
      let zs = missed_texts m rs in
      let all = xs ++ (ys ++ zs) in
      let used : All (Contains all) (map hit_text r.used.items) =
      All-map (Contains all) hit_text r.used.items
      (All-weaker (HasRule rules) (λ h. Contains all (hit_text h))
      (λ h c. Contains-append_left xs (ys ++ zs) (hit_text h) (hit_logged rules log h logged c)) r.used.items
      (All-head (HasRules rules) r rs a)) in
      let missed : All (Contains all) ys = All-weaker (Contains ys) (Contains all)
      (λ t c. Contains-append_right xs (ys ++ zs) t (Contains-append_left ys zs t c)) ys (All-contains_itself ys) in
      All-append (Contains all) (report_texts m r) (all_texts m rs)
      (All-append (Contains all) (map hit_text r.used.items) ys used missed)
      (widen xs ys zs (all_texts m rs) (known_texts rs (All-tail (HasRules rules) r rs a)))

  -- each rule that is written was learned, or is that of a miss
  pub few_rules : (reports : List BlockReport) (lines : List ℕ) (count : ℕ) → All (HasRules rules) reports
      → AreWritten m reports lines count → count ≤ length log + miss_count reports
  few_rules reports lines count found w =
      let xs = log_texts rules log in
      let zs = missed_texts m reports in
      let bound : length w.texts ≤ length (xs ++ zs) = no_more w.texts (xs ++ zs) w.sorted.sorted
      (through w.texts (all_texts m reports) (xs ++ zs) w.sorted.each (known_texts reports found)) in
      omega (
        arith,
        bound,
        w.counted,
        length-append xs zs,
        missed_length m reports,
        length-map log (λ (e : Entry). text_at rules e.place),
      )

  none_found : (hs : List Hit) → length log ≡ 0 → All (HasRule rules) hs → length hs ≡ 0
  none_found [] e a = refl
  none_found (h ∷ hs) e a =
      let found : HasRule rules h = All-head (HasRule rules) h hs a in
      let at = logged.places found.0 found.1 in
      let within : at.0 < length log = slice_get_within log at.0 at.1 at.2 in
      absurd (omega arith)

  -- without a rule that was learned there is no hit
  pub no_hits : (reports : List BlockReport) → length log ≡ 0 → All (HasRules rules) reports → hit_count reports ≡ 0
  no_hits reports e a = sum_zeros (λ (r : BlockReport). length r.used.items) reports
      (All-weaker (HasRules rules) (λ (r : BlockReport). length r.used.items ≡ 0)
      (λ r found. none_found r.used.items e found) reports a)
