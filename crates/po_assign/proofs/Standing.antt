-- The state of placement between two intervals, and what it gives at the end and where no register is free.
use Rattle.std.proofs.Common.{◌≡◌, ℕ, ◌+◌, ◌<◌, ◌≤◌, List, [], ◌∷◌, ◌++◌, length, get_or, set, map, reverse, refl}
use Rattle.std.proofs.Common.{sym, ◌∙◌, zero, suc, arith, Bool, true, false, cond, ◌&&◌, ◌||◌, ◌==◌, nat_le}
use Rattle.std.proofs.Common.{replicate, inl, inr, get_or-set_same, get_or-set_other}
use Rattle.std.specs.List.{count_by, All}
use Rattle.std.proofs.lemmas.Bool.{eq-eqb, ne_eqb, le-leb, lt-leb, leb-true, leb-false, and_parts, or_parts, cases_lt}
use Rattle.std.proofs.lemmas.Bool.{cases_eq}
use Rattle.std.proofs.lemmas.List.{length-set, get_or-replicate, length-replicate}
use Rattle.std.proofs.lemmas.List.Sums.{sum_by-set, sum_by-cons, count_by-le-length}
use Rattle.std.proofs.lemmas.List.Elements.{All-push}
use Rattle.std.proofs.lemmas.Grind.{reverse_onto}
use Rattle.po_model.specs.Placement.{Interval, PlacedInterval, contains, count_at, IsUncrowded, IsCrowded, is_taken}
use Rattle.po_model.specs.Placement.{lowest_from, place_from, assigned, AreApart}
use Rattle.po_assign.specs.declared.spans.Span.{Span}
use Rattle.po_assign.specs.Spans.{interval_from, Rising}

-- where register r is free and those from k on below it are taken, it is the lowest from k on
lowest_is : (done : List PlacedInterval) (point k m r : ℕ) → k ≤ r → r < k + m → is_taken done point r ≡ false →
    ((j : ℕ) → k ≤ j → j < r → is_taken done point j ≡ true) → lowest_from done point k m ≡ r
lowest_is done point k zero r low high free busy = absurd (omega arith)
lowest_is done point k (suc m) r low high free busy =
    elim (cases_eq k r) [
      | inl e ↦ let f : is_taken done point k ≡ false = rw e free in rw (f, e) refl
      | inr e ↦ rw (busy k (omega arith) (omega arith)) (lowest_is done point (suc k) m r (omega arith) (omega arith)
          free (λ j l h. busy j (omega arith) h))
    ]

-- how many of these numbers reach a point
abbrev pub reaching : ℕ → List ℕ → ℕ
reaching q ends = count_by (λ e. nat_le q e) ends

count-cons : {X : Type 0} (p : X → Bool) (x : X) (xs : List X) → count_by p (x ∷ xs) ≡ cond (p x) 1 0 + count_by p xs
count-cons p x xs = sum_by-cons (λ y. cond (p y) 1 0) x xs

reaching_none : (q n : ℕ) → 1 ≤ q → reaching q (replicate n 0) ≡ 0
reaching_none q zero h = refl
reaching_none q (suc n) h = count-cons (λ e. nat_le q e) 0 (replicate n 0) ∙ rw (lt-leb q 0 h, reaching_none q n h)
    refl

reaching_all : (q : ℕ) (ends : List ℕ) → ((k : ℕ) → k < length ends → q ≤ get_or ends k 0) → reaching q ends ≡ length
    ends
reaching_all q [] h = refl
reaching_all q (e ∷ es) h =
    let first : q ≤ e = h 0 (omega arith) in
    let rest : reaching q es ≡ length es = reaching_all q es (λ k l. h (suc k) (omega arith)) in
    count-cons (λ x. nat_le q x) e es ∙ rw (le-leb q e first) (omega arith)

-- intervals that start later don't contain a point
later_none : (q m : ℕ) (is : List Interval) → q < m → Rising m is → count_at is q ≡ 0
later_none q m [] h rising = refl
later_none q m (i ∷ is) h rising =
    let a : q < i.start = omega (arith, rising.0) in
    let rest : count_at is q ≡ 0 = later_none q i.start is a rising.2 in
    count-cons (λ (j : Interval). contains j q) i is ∙ rw (lt-leb i.start q a, rest) refl

rising_sooner : (m n : ℕ) (is : List Interval) → m ≤ n → Rising n is → Rising m is
rising_sooner m n [] h r = tt
rising_sooner m n (i ∷ is) h r = (omega (arith, r.0), r.1, r.2)

-- an interval that starts at or before a point contains it where it doesn't end before
contains_from : (i : Interval) (q : ℕ) → i.start ≤ q → contains i q ≡ nat_le q i.finish
contains_from i q h = rw (le-leb i.start q h) refl

contains_later : (i : Interval) (q : ℕ) → q < i.start → contains i q ≡ false
contains_later i q h = rw (lt-leb i.start q h) refl

-- of intervals that don't start before a point, those that start there contain it
pub starts_count : (q : ℕ) (ss : List Span) → Rising q (map interval_from ss) → count_by (λ (s : Span). s.start == q)
    ss ≡ count_at (map interval_from ss) q
starts_count q [] r = refl
starts_count q (s ∷ ss) r =
    let rest = starts_count q ss (rising_sooner q s.start (map interval_from ss) r.0 r.2) in
    let a = count-cons (λ (s : Span). s.start == q) s ss in
    let b = count-cons (λ (j : Interval). contains j q) (interval_from s) (map interval_from ss) in
    elim (cases_eq s.start q) [
      | inl e ↦
          let here : contains (interval_from s) q ≡ true = contains_from (interval_from s) q (omega (arith, e))
          ∙ le-leb q s.finish (omega (arith, e, r.1)) in
          a ∙ rw (eq-eqb s.start q e, rest) (sym (b ∙ rw here refl))
      | inr n ↦
          let past : contains (interval_from s) q ≡ false = contains_later (interval_from s) q (omega (arith, n, r.0))
          in
          a ∙ rw (ne_eqb s.start q n, rest) (sym (b ∙ rw past refl))
    ]

pub record Standing (n : ℕ) (all left : List Interval) (ends : List ℕ) (regs : List (ℕ × ℕ)) : Type 0 where
  pub done : List PlacedInterval
  pub now : ℕ
  pub held : length ends ≡ n
  pub follows : place_from n done left ≡ place_from n [] all
  pub total : (q : ℕ) → count_at all q ≡ count_at (map (λ d. d.interval) done) q + count_at left q
  pub rising : Rising now left
  pub taken : (q r : ℕ) → now ≤ q → r < n → is_taken done q r ≡ nat_le q (get_or ends r 0)
  pub counted : (q : ℕ) → now ≤ q → count_at (map (λ d. d.interval) done) q ≡ reaching q ends
  pub past : (q : ℕ) → q < now → count_at (map (λ d. d.interval) done) q ≤ n
  pub pairs : regs ≡ reverse (map assigned done)
  pub below : All (λ x. x.1 < n) regs
  pub early : (k : ℕ) (d : PlacedInterval) → k < length done → (get_or done k d).interval.start ≤ now
  pub apart : AreApart done

pub standing_begin : (n : ℕ) (is : List Interval) → Rising 1 is → Standing n is is (replicate n 0) []
standing_begin n is rising = record {
  done = [];
  now = 1;
  held = length-replicate {A = ℕ} n 0;
  follows = refl;
  total = λ q. omega arith;
  rising = rising;
  taken = λ q r h l. sym (rw (get_or-replicate {A = ℕ} n r 0 0 l) (lt-leb q 0 (omega arith)));
  counted = λ q h. sym (reaching_none q n h);
  past = λ q h. omega arith;
  pairs = refl;
  below = λ k d l. absurd (omega arith);
  early = λ k d l. absurd (omega arith);
  apart = λ i j d a b. absurd (omega arith);
}

or_nothing : (b : Bool) → (b || false) ≡ b
or_nothing true = refl
or_nothing false = refl

-- whether a register is taken once one more interval stands
taken_next : (i : Interval) (done : List PlacedInterval) (ends : List ℕ) (r q k : ℕ) → i.start ≤ q → r < length ends
    → get_or ends r 0 < i.start →
    is_taken done q k ≡ nat_le q (get_or ends k 0) →
    ((r == k) && contains i q || is_taken done q k) ≡ nat_le q (get_or (set ends r i.finish) k 0)
taken_next i done ends r q k later small free before =
    elim (cases_eq r k) [
      | inl e ↦
          let at : get_or (set ends r i.finish) k 0 ≡ i.finish =
          rw (← e) (get_or-set_same {A = ℕ} ends r i.finish 0 small) in
          let past : nat_le q (get_or ends k 0) ≡ false = lt-leb q (get_or ends k 0) (rw (← e) (omega arith)) in
          rw (eq-eqb r k e, contains_from i q later, before, past, at) (or_nothing (nat_le q i.finish))
      | inr n ↦
          let at : get_or (set ends r i.finish) k 0 ≡ get_or ends k 0 = get_or-set_other {A = ℕ} ends r k i.finish 0
          (λ e. n (sym e)) in
          rw (ne_eqb r k n, before, at) refl
    ]

-- how many ends reach a point, once the end of a free register is moved
reaching_set : (ends : List ℕ) (r q f : ℕ) → r < length ends → get_or ends r 0 < q → reaching q (set ends r f)
    ≡ cond (nat_le q f) 1 0 + reaching q ends
reaching_set ends r q f small free =
    let moved : reaching q (set ends r f) + cond (nat_le q (get_or ends r 0)) 1 0 ≡ reaching q ends
    + cond (nat_le q f) 1 0 = sum_by-set (λ (e : ℕ). cond (nat_le q e) 1 0) ends r f 0 small in
    let none : nat_le q (get_or ends r 0) ≡ false = lt-leb q (get_or ends r 0) free in
    let plain = rw none at moved in
    omega (arith, plain)

total_next : (all left : List Interval) (i : Interval) (js : List Interval) (q : ℕ) → count_at all q ≡ count_at js q
    + count_at (i ∷ left) q →
    count_at all q ≡ count_at (i ∷ js) q + count_at left q
total_next all left i js q h =
    let a = count-cons (λ (j : Interval). contains j q) i left in
    let b = count-cons (λ (j : Interval). contains j q) i js in
    omega (arith, a, b)

-- the points before the start of one more interval are uncrowded
past_next : (n : ℕ) (i : Interval) (js : List Interval) (ends : List ℕ) (now q : ℕ) → length ends ≡ n → q < i.start →
    (now ≤ q → count_at js q ≡ reaching q ends) → (q < now → count_at js q ≤ n) → count_at (i ∷ js) q ≤ n
past_next n i js ends now q held before counted past =
    let one = count-cons (λ (j : Interval). contains j q) i js in
    let same : ◌≡◌ {A = ℕ} (cond (contains i q) 1 0) 0 = rw (contains_later i q before) refl in
    elim (cases_lt q now) [
      | inl h ↦ let few = past h in omega (arith, one, same)
      | inr h ↦ let few = counted h in let most = count_by-le-length (λ (e : ℕ). nat_le q e) ends in
          omega (arith, one, same, few, most)
    ]

-- where a register isn't taken, each interval that has it doesn't contain the point
none_taken : (done : List PlacedInterval) (point r k : ℕ) (d : PlacedInterval) → is_taken done point r ≡ false
    → k < length done →
    ((get_or done k d).machine == r && contains (get_or done k d).interval point) ≡ false
none_taken [] point r k d e h = absurd (omega arith)
none_taken (x ∷ xs) point r zero d e h = (or_parts (x.machine == r && contains x.interval point) (is_taken xs point r)
    e).0
none_taken (x ∷ xs) point r (suc k) d e h = none_taken xs point r k d
    (or_parts (x.machine == r && contains x.interval point) (is_taken xs point r) e).1 (omega arith)

-- an interval that ended before another starts shares no point with it
ended_before : (a b : Interval) (ra rb point : ℕ) → b.start ≤ a.start → (rb == ra && contains b a.start) ≡ false
    → contains a point ≡ true → contains b point ≡ true → ra ≡ rb → ⊥
ended_before a b ra rb point early free here there e =
    let one : contains b a.start ≡ nat_le a.start b.finish = contains_from b a.start early in
    let same : (rb == ra) ≡ true = eq-eqb rb ra (sym e) in
    let out = rw (same, one) at free in
    let past = leb-false a.start b.finish out in
    let a_starts = leb-true a.start point (and_parts (nat_le a.start point) (nat_le point a.finish) here).0 in
    let b_ends = leb-true point b.finish (and_parts (nat_le b.start point) (nat_le point b.finish) there).1 in
    omega (arith, past, a_starts, b_ends)

early_next : (i : Interval) (r : ℕ) (done : List PlacedInterval) (now : ℕ) → now ≤ i.start
    → ((k : ℕ) (d : PlacedInterval) → k < length done → (get_or done k d).interval.start ≤ now) →
    (k : ℕ) (d : PlacedInterval) → k < length (record { interval = i; machine = r } ∷ done)
    → (get_or (record { interval = i; machine = r } ∷ done) k d).interval.start ≤ i.start
early_next i r done now le early zero d h = omega arith
early_next i r done now le early (suc k) d h = let before = early k d (omega arith) in omega (arith, before)

apart_next : (i : Interval) (r : ℕ) (done : List PlacedInterval) (now : ℕ) → now ≤ i.start → is_taken done i.start r
    ≡ false →
    ((k : ℕ) (d : PlacedInterval) → k < length done → (get_or done k d).interval.start ≤ now) → AreApart done
    → AreApart (record { interval = i; machine = r } ∷ done)
apart_next i r done now le free early apart zero zero d a b = absurd (omega arith)
apart_next i r done now le free early apart zero (suc k) d a b =
    let before = early k d (omega arith) in
    λ point here there e. ended_before i (get_or done k d).interval r (get_or done k d).machine point
    (omega (arith, before)) (none_taken done i.start r k d free (omega arith)) here there e
apart_next i r done now le free early apart (suc j) zero d a b = absurd (omega arith)
apart_next i r done now le free early apart (suc j) (suc k) d a b = apart j k d (omega arith) (omega arith)

pub standing_step : (n : ℕ) (all : List Interval) (i : Interval) (left : List Interval) (ends : List ℕ)
    (regs : List (ℕ × ℕ)) (r : ℕ) → Standing n all (i ∷ left) ends regs →
    r < length ends → get_or ends r 0 < i.start → ((k : ℕ) → k < r → i.start ≤ get_or ends k 0) →
    Standing n all left (set ends r i.finish) (regs ++ (i.register, r) ∷ [])
standing_step n all i left ends regs r st small free busy =
    let early : st.now ≤ i.start = st.rising.0 in
    let held : length ends ≡ n = st.held in
    let js = map (λ (d : PlacedInterval). d.interval) st.done in
    let open_r : is_taken st.done i.start r ≡ false = st.taken i.start r early (omega arith)
    ∙ lt-leb i.start (get_or ends r 0) free in
    let lowest : lowest_from st.done i.start 0 n ≡ r = lowest_is st.done i.start 0 n r (omega arith) (omega arith)
    open_r
    (λ k a b. st.taken i.start k early (omega arith) ∙ le-leb i.start (get_or ends k 0) (busy k b)) in
    record {
      done = record { interval = i; machine = r } ∷ st.done;
      now = i.start;
      held = length-set {A = ℕ} ends r i.finish ∙ held;
      follows = rw lowest at st.follows;
      total = λ q. total_next all left i js q (st.total q);
      rising = st.rising.2;
      taken = λ q k h l. taken_next i st.done ends r q k h small free (st.taken q k (omega arith) l);
      counted = λ q h. count-cons (λ (j : Interval). contains j q) i js ∙
          rw (contains_from i q h, st.counted q (omega arith))
          (sym (reaching_set ends r q i.finish small (omega arith)));
      past = λ q h. past_next n i js ends st.now q held h (st.counted q) (st.past q);
      pairs = rw st.pairs (sym (reverse_onto (map assigned st.done) (i.register, r) []));
      below = All-push (λ (x : ℕ × ℕ). x.1 < n) regs (i.register, r) st.below (omega arith);
      early = early_next i r st.done st.now early st.early;
      apart = apart_next i r st.done st.now early open_r st.early st.apart;
    }

-- at the end
pub standing_uncrowded : (n : ℕ) (all : List Interval) (ends : List ℕ) (regs : List (ℕ × ℕ)) → Standing n all [] ends
    regs → IsUncrowded n all
standing_uncrowded n all ends regs st q =
    elim (cases_lt q st.now) [
      | inl h ↦ omega (arith, st.total q, st.past q h)
      | inr h ↦ omega (arith, st.total q, st.counted q h, count_by-le-length (λ (e : ℕ). nat_le q e) ends)
    ]

pub standing_pairs : (n : ℕ) (all : List Interval) (ends : List ℕ) (regs : List (ℕ × ℕ)) → Standing n all [] ends regs
    → regs ≡ reverse (map assigned (place_from n [] all))
standing_pairs n all ends regs st = rw (← st.follows) st.pairs

-- where no register is free, the point is in an interval for each, and in those that start there
pub standing_crowded : (n : ℕ) (all : List Interval) (i : Interval) (left : List Interval) (ends : List ℕ)
    (regs : List (ℕ × ℕ)) → Standing n all (i ∷ left) ends regs →
    ((k : ℕ) → k < length ends → i.start ≤ get_or ends k 0) → IsCrowded n all i.start (n + count_at (i ∷ left) i.start)
standing_crowded n all i left ends regs st busy =
    let early : st.now ≤ i.start = st.rising.0 in
    let ordered : i.start ≤ i.finish = st.rising.1 in
    let full : reaching i.start ends ≡ length ends = reaching_all i.start ends busy in
    let here : contains i i.start ≡ true = contains_from i i.start (omega arith) ∙ le-leb i.start i.finish ordered in
    let one : count_at (i ∷ left) i.start ≡ cond (contains i i.start) 1 0 + count_at left i.start =
    count-cons (λ (j : Interval). contains j i.start) i left in
    let single : ◌≡◌ {A = ℕ} (cond (contains i i.start) 1 0) 1 = rw here refl in
    record {
      count = omega (arith, st.total i.start, st.counted i.start early, full, st.held);
      over = omega (arith, one, single);
      first = λ q h.
          let none : count_at (i ∷ left) q ≡ 0 = later_none q i.start (i ∷ left) h (omega arith, ordered, st.rising.2)
          in
          elim (cases_lt q st.now) [
            | inl l ↦ omega (arith, st.total q, st.past q l, none)
            | inr l ↦ omega (
              arith,
              st.total q,
              st.counted q l,
              count_by-le-length (λ (e : ℕ). nat_le q e) ends,
              none,
              st.held,
            )
          ];
    }
