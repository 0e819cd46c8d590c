-- The counts of a run.
use Rattle.std.proofs.Common.{◌≡◌, ℕ, zero, suc, ◌+◌, ◌<◌, ◌≤◌, true, List, [], ◌∷◌, ◌++◌, length, map, refl, sym}
use Rattle.std.proofs.Common.{◌∙◌, ap, subst, arith, append-nil}
use mathlib.Core.List.{IsPrefix}
use Rattle.std.specs.Prelude.{slice_get, Some}
use Rattle.std.specs.Arc.{arc_value}
use Rattle.std.specs.List.{All, Contains, sum_by}
use Rattle.std.proofs.lemmas.List.{length-append, length-map, map-append}
use Rattle.std.proofs.lemmas.List.Elements.{All-nil, All-cons, All-append, All-head, All-tail, All-weaker, All-map}
use Rattle.std.proofs.lemmas.List.Elements.{All-contains, Contains-append_left, Contains-append_right}
use Rattle.std.proofs.lemmas.List.Sums.{sum_by-cons, sum_by-append, sum_by_push}
use Rattle.std.proofs.lemmas.Option.{slice_get_within, get_or_from_slice_get}
use Rattle.po_model.specs.declared.machine.Machine.{Machine}
use Rattle.po_model.specs.declared.pair.Pair.{Pair}
use Rattle.po_model.specs.Holed.{PlainRule, rule_of}
use Rattle.po_model.specs.Pairs.{pair_of, WellFormedPair}
use Rattle.po_model.specs.RuleText.{rule_text}
use Rattle.po_model.specs.UnitCodes.{PlainUnit}
use Rattle.po_fore.specs.declared.report.Hit.{Hit}
use Rattle.po_fore.specs.declared.report.BlockReport.{BlockReport}
use Rattle.po_queue.specs.Passes.{QueueId, PassView, IsOf, put_count}
use Rattle.po_settle.specs.Reported.{hit_text, miss_text, report_texts, all_texts, HasFormedMisses}
use Rattle.po_settle.specs.Texts.{rule_texts}
use Rattle.po_store.specs.declared.publisher.Entry.{Entry}
use Rattle.po_store.specs.Logged.{Logged}
use Rattle.po_tally.specs.declared.tally.Tally.{Tally}
use Rattle.po_tally.specs.Tallies.{count_in, total}
use Rattle.po_tally.proofs.Covers.{Covers, covers_self, covers_left, covers_right, covers_both, covers_beside}
use Rattle.po_tally.proofs.Covers.{covers_through}
use Rattle.po_team.specs.Ends.{take_count, HaveMetFull}
use Rattle.po_opt.specs.declared.counts.Counts.{Counts}
use Rattle.po_opt.specs.declared.relook.Relooked.{Relooked}
use Rattle.po_opt.specs.Counts.{AreCounted, AreCounts}
use Rattle.po_opt.specs.Ended.{AreLearned}
use Rattle.po_opt.specs.Relooked.{HasRule, AreSeen}
use Rattle.po_opt.specs.Rules.{AreWritten}
use Rattle.po_opt.specs.Told.{IsTally, AreTold, tally_text, texts_told}
use Rattle.po_opt.proofs.Reports.{hit_count}
use Rattle.po_opt.proofs.ByRules.{covers_first, covers_last}
use Rattle.po_opt.proofs.Writing.{HasRules, texts_within, sorted_as, few_rules, no_hits}

-- where the list of rules goes on, what stood in it stands in it
contains_on : (xs ys : List PlainRule) (r : PlainRule) → IsPrefix xs ys → Contains xs r → Contains ys r
contains_on xs ys r (more, e) c = subst (λ zs. Contains zs r) e (Contains-append_left xs more r c)

-- Passes

either : (a b : ℕ) (Q : Type 0) → (0 < a → Q) → (0 < b → Q) → 0 < a + b → Q
either zero b Q f g h = g (omega (arith, h))
either (suc a) b Q f g h = f (omega arith)

module _ {T : Type 0} where
  pub puts_with : (passes : List (PassView T)) (own : PassView T)
      → put_count (passes ++ own ∷ []) ≡ put_count passes + length own.puts
  puts_with passes own = sum_by_push (λ (p : PassView T). length p.puts) passes own

  pub takes_with : (passes : List (PassView T)) (own : PassView T) → own.takes ≡ []
      → take_count (passes ++ own ∷ []) ≡ take_count passes
  takes_with passes own none =
      omega (arith, sum_by_push (λ (p : PassView T). length p.takes) passes own, ap length none)

  pub parts_with : (passes : List (PassView T)) (own : PassView T) → own.parts ≡ 1
      → sum_by (λ (p : PassView T). p.parts) (passes ++ own ∷ [])
      ≡ sum_by (λ (p : PassView T). p.parts) passes + 1
  parts_with passes own one = omega (arith, sum_by_push (λ (p : PassView T). p.parts) passes own, one)

  pub queue_with : (queue : QueueId) (passes : List (PassView T)) (own : PassView T) → All (IsOf queue) passes
      → own.queue ≡ queue → All (IsOf queue) (passes ++ own ∷ [])
  queue_with queue passes own all is = All-append (IsOf queue) passes (own ∷ []) all
      (All-cons (IsOf queue) own [] is (All-nil (IsOf queue)))

  stands_at : (passes : List (PassView T)) (k : ℕ) (p : PassView T) → slice_get passes k ≡ Some p → Contains passes p
  stands_at passes k p e = (k, slice_get_within passes k p e, get_or_from_slice_get passes k p p e)

  -- where a miss wasn't taken, a pass has met the full queue: so many were put
  pub full_put : (passes : List (PassView T)) (own : PassView T) (capacity dropped lost : ℕ)
      → (0 < dropped → HaveMetFull passes) → (0 < lost → own.met_full ≡ true)
      → All (λ (p : PassView T). p.met_full ≡ true → capacity ≤ put_count (passes ++ own ∷ [])) (passes ++ own ∷ [])
      → 0 < dropped + lost → capacity ≤ put_count (passes ++ own ∷ [])
  full_put passes own capacity dropped lost met mine all some =
      let all_of = passes ++ own ∷ [] in
      let Much : PassView T → Type 0 = λ p. p.met_full ≡ true → capacity ≤ put_count all_of in
      either dropped lost (capacity ≤ put_count all_of)
      (λ h.
      let m = met h in
      All-contains Much all_of m.1 all
      (Contains-append_left passes (own ∷ []) m.1 (stands_at passes m.0 m.1 m.2)) m.3)
      (λ h.
      All-contains Much all_of own all (Contains-append_right passes (own ∷ []) own (0, omega arith, refl)) (mine h))
      some

-- All counts

-- a list of tallies counts one for each at least
many : (ts : List Tally) → length ts ≤ total ts
many [] = omega arith
many (t ∷ ts) = omega (arith, many ts, sum_by-cons count_in t ts)

none : (ts : List Tally) → length ts ≡ 0 → total ts ≡ 0
none [] e = refl
none (t ∷ ts) e = absurd (omega arith)

abbrev one_hit : Tally → Hit
one_hit t = t.hit

abbrev pair_in : Tally → Pair
pair_in t = t.hit.pair

founds_text : (ts : List Tally) → map hit_text (map one_hit ts) ≡ map tally_text ts
founds_text [] = refl
founds_text (t ∷ ts) = ap (λ xs. tally_text t ∷ xs) (founds_text ts)

losts_text : (m : Machine) (ts : List Tally) → All (IsTally m) ts
    → map (miss_text m) (map pair_in ts) ≡ map tally_text ts
losts_text m [] a = refl
losts_text m (t ∷ ts) a =
    let first : IsTally m t = All-head (IsTally m) t ts a in
    ap (λ x. x ∷ map (miss_text m) (map pair_in ts)) (ap rule_text (sym first.rule))
    ∙ ap (λ xs. tally_text t ∷ xs) (losts_text m ts (All-tail (IsTally m) t ts a))

module _ (m : Machine) (first : List PlainRule) (tallies : List Tally) (misses : List Pair) (done : Relooked)
    (seen : AreSeen m first tallies done) (r : BlockReport) (used : r.used.items ≡ done.hits.items)
    (missed : r.misses.items ≡ misses ++ done.lost.items) where
  abbrev founds : List (List ℕ)
  founds = map tally_text seen.founds

  abbrev losts : List (List ℕ)
  losts = map tally_text seen.losts

  abbrev all : List (List ℕ)
  all = map tally_text tallies

  abbrev mine : List (List ℕ)
  mine = map (miss_text m) misses

  split : (weight : Tally → ℕ) → sum_by weight (seen.founds ++ seen.losts) ≡ sum_by weight tallies
  split weight = sum_by-append weight seen.founds seen.losts ∙ seen.same weight

  both : map tally_text (seen.founds ++ seen.losts) ≡ founds ++ losts
  both = map-append tally_text seen.founds seen.losts

  within : Covers (founds ++ losts) all
  within = subst (λ ts. Covers ts all) both (texts_within tally_text (seen.founds ++ seen.losts) tallies split)

  whole : Covers all (founds ++ losts)
  whole = subst (Covers all) both
      (texts_within tally_text tallies (seen.founds ++ seen.losts) (λ weight. sym (split weight)))

  texts_are : all_texts m (r ∷ []) ≡ founds ++ (mine ++ losts)
  texts_are =
      let hits : map hit_text r.used.items ≡ founds =
      ap (map hit_text) (used ∙ seen.hits) ∙ founds_text seen.founds in
      let lost : map (miss_text m) r.misses.items ≡ mine ++ losts =
      ap (map (miss_text m)) (missed ∙ ap (λ ps. misses ++ ps) seen.lost)
      ∙ map-append (miss_text m) misses (map pair_in seen.losts)
      ∙ ap (λ ts. mine ++ ts) (losts_text m seen.losts seen.are) in
      append-nil (report_texts m r) ∙ ap (λ ts. ts ++ map (miss_text m) r.misses.items) hits
      ∙ ap (λ ts. founds ++ ts) lost

  pub texts_each : Covers (all_texts m (r ∷ [])) (texts_told m tallies misses)
  texts_each =
      subst (λ ts. Covers ts (all ++ mine)) (sym texts_are)
      (covers_both founds (mine ++ losts) (all ++ mine)
      (covers_left founds all mine (covers_first founds losts all within))
      (covers_both mine losts (all ++ mine) (covers_right mine all mine (covers_self mine))
      (covers_left losts all mine (covers_last founds losts all within))))

  pub texts_all : Covers (texts_told m tallies misses) (all_texts m (r ∷ []))
  texts_all =
      subst (Covers (all ++ mine)) (sym texts_are)
      (covers_both all mine (founds ++ (mine ++ losts))
      (covers_through all (founds ++ losts) (founds ++ (mine ++ losts)) whole
      (covers_beside founds losts founds (mine ++ losts) (covers_self founds)
      (covers_right losts mine losts (covers_self losts))))
      (covers_right mine founds (mine ++ losts) (covers_left mine mine losts (covers_self mine))))

  lost_formed : (ts : List Tally) → All (IsTally m) ts → All WellFormedPair (map pair_of (map pair_in ts))
  lost_formed [] a = All-nil WellFormedPair
  lost_formed (t ∷ ts) a = All-cons WellFormedPair (pair_of (pair_in t)) (map pair_of (map pair_in ts))
      (All-head (IsTally m) t ts a).formed (lost_formed ts (All-tail (IsTally m) t ts a))

  -- the misses of the report are well formed
  pub report_formed : All WellFormedPair (map pair_of misses) → HasFormedMisses r
  report_formed formed =
      let both : map pair_of r.misses.items ≡ map pair_of misses ++ map pair_of (map pair_in seen.losts) =
      ap (map pair_of) (missed ∙ ap (λ ps. misses ++ ps) seen.lost)
      ∙ map-append pair_of misses (map pair_in seen.losts) in
      subst (All WellFormedPair) (sym both)
      (All-append WellFormedPair (map pair_of misses) (map pair_of (map pair_in seen.losts)) formed
      (lost_formed seen.losts seen.are))

  pub lost_few : length r.misses.items ≤ length misses + (done.taken + done.dropped)
  lost_few = omega (
    arith,
    ap length missed,
    length-append misses done.lost.items,
    ap length seen.lost,
    length-map seen.losts pair_in,
    many seen.losts,
    seen.misses,
  )

  pub none_found : length r.used.items ≡ 0 → done.found ≡ 0
  none_found e =
      let count : length seen.founds ≡ 0 = omega (
        arith,
        e,
        ap length used,
        ap length seen.hits,
        length-map seen.founds one_hit,
      ) in
      seen.found ∙ none seen.founds count

  pub found_on : (rules : List PlainRule) → IsPrefix first rules → All (HasRule rules) r.used.items
  found_on rules on =
      subst (All (HasRule rules)) (sym (used ∙ seen.hits))
      (All-map (HasRule rules) one_hit seen.founds
      (All-weaker (λ t. HasRule first (one_hit t)) (λ t. HasRule rules (one_hit t))
      (λ t c. contains_on first rules (rule_of (arc_value t.hit.rule)) on c) seen.founds seen.has))

pub counts_are : (m : Machine) (us : List PlainUnit) (capacity learners : ℕ) (tallies : List Tally)
    (misses : List Pair) (done : Relooked) (r : BlockReport) (reports : List BlockReport)
    (first rules : List PlainRule) (log : List Entry) (lines : List ℕ) (c : Counts) (taken dropped q f n : ℕ)
    → AreTold m us tallies misses → AreSeen m first tallies done → reports ≡ r ∷ []
    → r.used.items ≡ done.hits.items → r.misses.items ≡ misses ++ done.lost.items
    → taken + dropped ≡ length misses → q ≡ taken + done.taken
    → f ≡ dropped + done.dropped → n ≡ length log → IsPrefix first rules → Logged rules log
    → AreCounted m reports done.found q f n lines c → AreLearned learners q n → (0 < f → capacity ≤ q)
    → AreCounts m us capacity learners lines c
counts_are m us capacity learners tallies misses done r reports first rules log lines c taken dropped q f n told seen
    one used missed posted put not_put learned on logged counted bounds full =
    let log_is : c.learned ≡ length log = counted.learned_is ∙ learned in
    let written : AreWritten m (r ∷ []) lines c.rules =
    subst (λ (rs : List BlockReport). AreWritten m rs lines c.rules) one counted.written in
    let texts = texts_told m tallies misses in
    let found : All (HasRules rules) (r ∷ []) =
    All-cons (HasRules rules) r [] (found_on m first tallies misses done seen r used missed rules on)
    (All-nil (HasRules rules)) in
    let total_is : total seen.founds + total seen.losts ≡ total tallies = seen.same count_in in
    record {
      written = record {
        pairs = told.pairs;
        tried = told.tried;
        texts = written.texts;
        sorted = sorted_as (all_texts m (r ∷ [])) (rule_texts m told.pairs) written.texts
            (covers_through (all_texts m (r ∷ [])) texts (rule_texts m told.pairs)
            (texts_each m first tallies misses done seen r used missed) told.each)
            (covers_through (rule_texts m told.pairs) texts (all_texts m (r ∷ [])) told.all
            (texts_all m first tallies misses done seen r used missed)) written.sorted;
        text = written.written;
      };
      pairs = omega (
        arith,
        counted.pairs,
        counted.hits_are,
        counted.misses,
        seen.found,
        seen.misses,
        total_is,
        told.count,
        posted,
        put,
        not_put,
      );
      rules = written.counted;
      tries = sym counted.pairs;
      posts = omega (arith, counted.posted_is, counted.full_is, counted.misses);
      full = λ some.
          let much : capacity ≤ q = full (omega (arith, some, counted.full_is)) in
          omega (arith, much, counted.posted_is);
      published = rules;
      logged = (log, logged, log_is);
      bounds = subst (λ k. AreLearned learners k c.learned) (sym counted.posted_is)
          (subst (λ k. AreLearned learners q k) (sym counted.learned_is) bounds);
      few = omega (
        arith,
        few_rules m rules log logged (r ∷ []) lines c.rules found written,
        sum_by-cons (λ (x : BlockReport). length x.misses.items) r [],
        lost_few m first tallies misses done seen r used missed,
        log_is,
        counted.misses,
        posted,
        put,
        not_put,
      );
      bare = λ nothing. counted.hits_are ∙ none_found m first tallies misses done seen r used missed
          (let e : hit_count (r ∷ []) ≡ 0 = no_hits m rules log logged (r ∷ []) (sym log_is ∙ nothing) found in
          omega (arith, e, sum_by-cons (λ (x : BlockReport). length x.used.items) r []));
    }
