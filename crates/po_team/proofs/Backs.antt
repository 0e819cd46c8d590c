-- What the passes of all threads have together.
use Rattle.std.proofs.Common.{◌≡◌, ℕ, zero, suc, ◌+◌, ◌*◌, ◌<◌, ◌≤◌, ◌⊎◌}
use Rattle.std.proofs.Common.{inl, inr, ⊎_elim, Bool, true, false, List, [], ◌∷◌, ◌++◌}
use Rattle.std.proofs.Common.{length, map, drop, All, Option, None, Some}
use Rattle.std.proofs.Common.{MatchOption, slice_get, refl, ap, sym, ◌∙◌, subst, arith}
use Rattle.std.specs.List.{sum_by}
use Rattle.std.proofs.lemmas.List.Elements.{All-nil, All-cons, All-append, All-head, All-tail}
use Rattle.std.proofs.lemmas.List.Sums.{sum_by-cons, sum_by-append}
use Rattle.std.proofs.Math.Nat.{div-le_self}
use Rattle.po_queue.specs.Passes.{QueueId, PassView, IsOf}
use Rattle.po_tally.specs.declared.brief.Brief.{Brief}
use Rattle.po_pool.specs.Worked.{first_unit, EachAt}
use Rattle.po_team.specs.Ends.{AreBack, HaveMetFull, passes_in, take_count}
use Rattle.po_team.specs.Seats.{HasLearned, most_lost}
use Rattle.po_team.specs.Works.{HasPosted, IsPosting, taken_in, dropped_in}
use Rattle.po_team.proofs.Ranges.{given, given_from, splits, all_given, step, EachFrom, head_from, tail_from}

either : (a b : ℕ) → 0 < a + b → (0 < a) ⊎ (0 < b)
either zero b h = inr (omega (arith, h))
either (suc a) b h = inl (omega arith)

get_left : {A : Type 0} (xs ys : List A) (k : ℕ) (x : A) → slice_get xs k ≡ Some x → slice_get (xs ++ ys) k ≡ Some x
get_left [] ys k x e = absurd (cc e)
get_left (y ∷ xs) ys zero x e = e
get_left (y ∷ xs) ys (suc k) x e = get_left xs ys k x e

pub sum_map : {A B : Type 0} (f : B → ℕ) (g : A → B) (xs : List A) → sum_by f (map g xs) ≡ sum_by (λ x. f (g x)) xs
sum_map f g [] = refl
sum_map f g (x ∷ xs) =
    omega (arith, sum_by-cons f (g x) (map g xs), sum_by-cons (λ x. f (g x)) x xs, sum_map f g xs)

there : {A : Type 0} (P : A → Type 0) (o : Option A) → MatchOption o ⊥ P → (x : A) × (o ≡ Some x) × P x
there P None h = absurd h
there P (Some x) h = (x, refl, h)

module _ {T : Type 0} (queue : QueueId) where
  back_nil : AreBack {T = T} queue 0 0 0 []
  back_nil = record {
    each = All-nil (IsOf queue);
    parts_are = refl;
    put = refl;
    full = λ some. absurd (omega (arith, some));
  }

  later_full : (q : PassView T) (ps : List (PassView T)) → HaveMetFull ps → HaveMetFull (q ∷ ps)
  later_full q ps h = (suc h.0, h.1, h.2, h.3)

  -- one pass more, of one part
  back_cons : (q : PassView T) (n t d u e : ℕ) (ps : List (PassView T)) → q.queue ≡ queue → q.parts ≡ 1
      → length q.puts ≡ t → (0 < d → q.met_full ≡ true) → AreBack queue n u e ps
      → AreBack queue (suc n) (t + u) (d + e) (q ∷ ps)
  back_cons q n t d u e ps same part put full h = record {
    each = All-cons (IsOf queue) q ps same h.each;
    parts_are = omega (arith, sum_by-cons (λ (p : PassView T). p.parts) q ps, part, h.parts_are);
    put = omega (arith, sum_by-cons (λ (p : PassView T). length p.puts) q ps, put, h.put);
    full = λ some.
        ⊎_elim (λ here. (0, q, refl, full here)) (λ later. later_full q ps (h.full later)) (either d e some);
  }

  -- the passes of workers, which took nothing, from a place on
  module _ {S : Type 0} (pass : S → Option (PassView T)) (fulls : S → ℕ) (units workers : ℕ) (some : 0 < workers)
      (outs : List Brief) where
    abbrev HasIts : S → List Brief → Type 0
    HasIts s os = HasPosted queue (pass s) (fulls s) (taken_in os) (dropped_in os)

    -- they are back, and took nothing
    abbrev BackFrom : ℕ → List S → Type 0
    BackFrom p seats =
        AreBack queue (length seats) (taken_in (given_from units workers some outs p))
        (dropped_in (given_from units workers some outs p)) (passes_in (map pass seats))
        × (take_count (passes_in (map pass seats)) ≡ 0)

    none_from : (p : ℕ) → given_from units workers some outs p ≡ [] → BackFrom p []
    none_from p e =
        let back : AreBack {T = T} queue 0 0 0 [] = back_nil in
        (subst (λ (os : List Brief). AreBack {T = T} queue 0 (taken_in os) (dropped_in os) []) (sym e) back, refl)

    one_from : (p : ℕ) (s : S) (seats : List S) → HasIts s (given units workers some outs p) → BackFrom (p + 1) seats
        → BackFrom p (s ∷ seats)
    one_from p s seats h (back, none) =
        let here = given units workers some outs p in
        let behind = given_from units workers some outs (p + 1) in
        let (q, e, its) = there (λ q. IsPosting queue q (fulls s) (taken_in here) (dropped_in here)) (pass s) h in
        let all = back_cons q (length seats) (taken_in here) (dropped_in here) (taken_in behind) (dropped_in behind)
        (passes_in (map pass seats)) its.queue_is its.part its.put (λ d. its.full (its.rose d)) back in
        let passes : passes_in (map pass (s ∷ seats)) ≡ q ∷ passes_in (map pass seats) =
        ap (λ (o : Option (PassView T)). passes_in (o ∷ map pass seats)) e in
        let took : take_count (q ∷ passes_in (map pass seats)) ≡ 0 = omega (
          arith,
          sum_by-cons (λ (p : PassView T). length p.takes) q (passes_in (map pass seats)),
          ap length its.takes,
          none,
        ) in (
          subst (λ (ps : List (PassView T)). AreBack queue (suc (length seats))
              (taken_in (given_from units workers some outs p)) (dropped_in (given_from units workers some outs p)) ps)
              (sym passes)
              (subst (λ (n : ℕ). AreBack queue (suc (length seats)) n
              (dropped_in (given_from units workers some outs p)) (q ∷ passes_in (map pass seats)))
              (splits units workers some outs (λ (b : Brief). b.taken) p)
              (subst (λ (n : ℕ). AreBack queue (suc (length seats)) (taken_in here + taken_in behind) n
              (q ∷ passes_in (map pass seats))) (splits units workers some outs (λ (b : Brief). b.dropped) p) all)),
          ap take_count passes ∙ took,
        )

    back_from : (p : ℕ) (seats : List S) → length outs ≡ first_unit units workers (p + length seats)
        → EachFrom units workers some outs HasIts p seats → BackFrom p seats
    back_from p [] e h = none_from p (all_given units workers some outs p e)
    back_from p (s ∷ seats) e h =
        one_from p s seats (head_from units workers some outs HasIts p s seats h)
        (back_from (p + 1) seats (step units workers some outs p s seats e)
        (tail_from units workers some outs HasIts p s seats h))

    first_zero : first_unit units workers 0 ≡ 0
    first_zero =
        let below : first_unit units workers 0 ≤ 0 * units = div-le_self (0 * units) workers in
        let none : 0 * units ≡ 0 = omega arith in
        omega (arith, below, none)

    -- all workers' passes are back
    pub workers_back : (seats : List S) → length outs ≡ first_unit units workers (length seats)
        → EachAt (λ place s. HasIts s (given units workers some outs place)) seats
        → AreBack queue (length seats) (taken_in outs) (dropped_in outs) (passes_in (map pass seats))
        × (take_count (passes_in (map pass seats)) ≡ 0)
    workers_back seats e h =
        let count : length seats ≡ 0 + length seats = omega arith in
        let at : (k : ℕ) → k ≡ 0 + k = λ k. omega arith in
        subst (λ (n : ℕ). AreBack queue (length seats) (taken_in (drop n outs)) (dropped_in (drop n outs))
        (passes_in (map pass seats)) × (take_count (passes_in (map pass seats)) ≡ 0)) first_zero
        (back_from 0 seats (e ∙ ap (first_unit units workers) count)
        (λ k s f. subst (λ n. HasIts s (given units workers some outs n)) (at k) (h k s f)))

  -- the passes of learners, which put nothing
  module _ {S : Type 0} (pass : S → PassView T) (parts amount : S → ℕ) (refused : S → Bool) where
    abbrev Learned : S → Type 0
    Learned s = HasLearned queue (pass s) (parts s) (amount s) (refused s)

    pub learners_back : (seats : List S) → All Learned seats → AreBack queue (length seats) 0 0 (map pass seats)
    learners_back [] h = back_nil
    learners_back (s ∷ seats) h =
        let one : Learned s = All-head Learned s seats h in
        back_cons (pass s) (length seats) 0 0 0 0 (map pass seats) one.queue_is one.part (ap length one.puts)
        (λ d. absurd (omega (arith, d))) (learners_back seats (All-tail Learned s seats h))

    pub learners_counted : (seats : List S) → All Learned seats → sum_by amount seats ≤ take_count (map pass seats)
    learners_counted [] h = omega arith
    learners_counted (s ∷ seats) h =
        let one : Learned s = All-head Learned s seats h in
        omega (
          arith,
          sum_by-cons amount s seats,
          sum_by-cons (λ (p : PassView T). length p.takes) (pass s) (map pass seats),
          one.taken,
          learners_counted seats (All-tail Learned s seats h),
        )

    at_most_one : (b : Bool) → most_lost b ≤ 1
    at_most_one false = omega arith
    at_most_one true = omega arith

    pub learners_lost : (seats : List S) → All Learned seats
        → take_count (map pass seats) ≤ sum_by amount seats + length seats
    learners_lost [] h = omega arith
    learners_lost (s ∷ seats) h =
        let one : Learned s = All-head Learned s seats h in
        omega (
          arith,
          sum_by-cons amount s seats,
          sum_by-cons (λ (p : PassView T). length p.takes) (pass s) (map pass seats),
          one.learned,
          at_most_one (refused s),
          learners_lost seats (All-tail Learned s seats h),
        )

    pub each_part : (seats : List S) → All Learned seats → All (λ s. parts s ≡ 1) seats
    each_part [] h = All-nil (λ s. parts s ≡ 1)
    each_part (s ∷ seats) h =
        let one : Learned s = All-head Learned s seats h in
        All-cons (λ s. parts s ≡ 1) s seats one.share (each_part seats (All-tail Learned s seats h))

  -- passes behind others
  pub back_append : (n k t d : ℕ) (ps qs : List (PassView T)) → AreBack queue n t d ps → AreBack queue k 0 0 qs
      → AreBack queue (n + k) t d (ps ++ qs)
  back_append n k t d ps qs h g = record {
    each = All-append (IsOf queue) ps qs h.each g.each;
    parts_are = omega (arith, sum_by-append (λ (p : PassView T). p.parts) ps qs, h.parts_are, g.parts_are);
    put = omega (arith, sum_by-append (λ (p : PassView T). length p.puts) ps qs, h.put, g.put);
    full = λ some. let f = h.full some in (f.0, f.1, get_left ps qs f.0 (f.1) f.2, f.3);
  }
