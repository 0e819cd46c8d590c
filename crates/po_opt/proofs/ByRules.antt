-- The tries of all units, told by their rules: what tallies and misses tell is what the reports behind them tell.
use Rattle.std.proofs.Common.{◌≡◌, ℕ, ◌+◌, List, [], ◌∷◌, ◌++◌, length, map, refl, sym, ◌∙◌, ap, subst, arith, get_or}
use Rattle.std.specs.List.{All, Contains, sum_by}
use Rattle.std.proofs.lemmas.List.{length-map, get_or-map, map-append}
use Rattle.std.proofs.lemmas.List.Concat.{flat_map-cons, length-flat_map}
use Rattle.std.proofs.lemmas.List.Elements.{All-nil, All-append, All-head, All-tail, All-weaker, All-map, All-contains}
use Rattle.std.proofs.lemmas.List.Sums.{sum_by-cons}
use Rattle.po_model.specs.declared.machine.Machine.{Machine}
use Rattle.po_model.specs.declared.pair.Pair.{Pair}
use Rattle.po_model.specs.Holed.{PlainRule}
use Rattle.po_model.specs.Learning.{PlainHit}
use Rattle.po_model.specs.Pairs.{PlainPair, pair_of, WellFormedPair}
use Rattle.po_model.specs.RuleText.{rule_text}
use Rattle.po_model.specs.UnitCodes.{PlainUnit}
use Rattle.po_fore.specs.declared.report.Hit.{Hit}
use Rattle.po_fore.specs.declared.report.BlockReport.{BlockReport}
use Rattle.po_settle.specs.Reported.{hit_text, miss_text, report_texts, all_texts}
use Rattle.po_settle.specs.Texts.{rule_texts}
use Rattle.po_tally.specs.declared.tally.Tally.{Tally}
use Rattle.po_tally.specs.Briefs.{hits_in, missed_in}
use Rattle.po_tally.specs.Tallies.{AreJoined, hit_in, rule_in, count_in, tally_of, total}
use Rattle.po_tally.proofs.Covers.{Covers, covers_self, covers_left, covers_right, covers_both, covers_beside}
use Rattle.po_tally.proofs.Covers.{covers_through, covers_map}
use Rattle.po_tally.proofs.Joining.{rules_of}
use Rattle.po_opt.specs.Told.{IsHit, IsTally, tally_text, texts_told, AreTold}
use Rattle.po_opt.proofs.Reports.{IsReport, TellOf, hit_count, miss_count}
use Rattle.po_opt.proofs.Telling.{AllTold, IsHitBy}
use Rattle.po_opt.proofs.Writing.{AreTexts, told_texts, tries_are}

-- Texts of reports, hits first

pub covers_first : (xs ys zs : List (List ℕ)) → Covers (xs ++ ys) zs → Covers xs zs
covers_first xs ys zs h = covers_through xs (xs ++ ys) zs (covers_left xs xs ys (covers_self xs)) h

pub covers_last : (xs ys zs : List (List ℕ)) → Covers (xs ++ ys) zs → Covers ys zs
covers_last xs ys zs h = covers_through ys (xs ++ ys) zs (covers_right ys xs ys (covers_self ys)) h

abbrev hits_told : List BlockReport → List (List ℕ)
hits_told reports = map hit_text (hits_in reports)

abbrev misses_told : Machine → List BlockReport → List (List ℕ)
misses_told m reports = map (miss_text m) (missed_in reports)

hits_cons : (r : BlockReport) (rs : List BlockReport)
    → hits_told (r ∷ rs) ≡ map hit_text r.used.items ++ hits_told rs
hits_cons r rs =
    ap (map hit_text) (flat_map-cons (λ (q : BlockReport). q.used.items) r rs)
    ∙ map-append hit_text r.used.items (hits_in rs)

misses_cons : (m : Machine) (r : BlockReport) (rs : List BlockReport)
    → misses_told m (r ∷ rs) ≡ map (miss_text m) r.misses.items ++ misses_told m rs
misses_cons m r rs =
    ap (map (miss_text m)) (flat_map-cons (λ (q : BlockReport). q.misses.items) r rs)
    ∙ map-append (miss_text m) r.misses.items (missed_in rs)

told_apart : (m : Machine) (rs : List BlockReport) → Covers (all_texts m rs) (hits_told rs ++ misses_told m rs)
told_apart m [] = covers_self []
told_apart m (r ∷ rs) =
    let h = map hit_text r.used.items in
    let s = map (miss_text m) r.misses.items in
    let hs = hits_told rs in
    let ms = misses_told m rs in
    let here : Covers (h ++ s) ((h ++ hs) ++ (s ++ ms)) =
    covers_beside h s (h ++ hs) (s ++ ms) (covers_left h h hs (covers_self h)) (covers_left s s ms (covers_self s)) in
    let there : Covers (hs ++ ms) ((h ++ hs) ++ (s ++ ms)) =
    covers_beside hs ms (h ++ hs) (s ++ ms) (covers_right hs h hs (covers_self hs))
    (covers_right ms s ms (covers_self ms)) in
    subst (λ ts. Covers (all_texts m (r ∷ rs)) (ts ++ misses_told m (r ∷ rs))) (sym (hits_cons r rs))
    (subst (λ ts. Covers (all_texts m (r ∷ rs)) ((h ++ hs) ++ ts)) (sym (misses_cons m r rs))
    (covers_both (h ++ s) (all_texts m rs) ((h ++ hs) ++ (s ++ ms)) here
    (covers_through (all_texts m rs) (hs ++ ms) ((h ++ hs) ++ (s ++ ms)) (told_apart m rs) there)))

told_whole : (m : Machine) (rs : List BlockReport) → Covers (hits_told rs ++ misses_told m rs) (all_texts m rs)
told_whole m [] = covers_self []
told_whole m (r ∷ rs) =
    let h = map hit_text r.used.items in
    let s = map (miss_text m) r.misses.items in
    let hs = hits_told rs in
    let ms = misses_told m rs in
    let all = all_texts m rs in
    let whole = (h ++ s) ++ all in
    let before : Covers (hs ++ ms) all = told_whole m rs in
    let hits : Covers (h ++ hs) whole = covers_both h hs whole
    (covers_left h (h ++ s) all (covers_left h h s (covers_self h)))
    (covers_right hs (h ++ s) all (covers_first hs ms all before)) in
    let missed : Covers (s ++ ms) whole = covers_both s ms whole
    (covers_left s (h ++ s) all (covers_right s h s (covers_self s)))
    (covers_right ms (h ++ s) all (covers_last hs ms all before)) in
    subst (λ ts. Covers (ts ++ misses_told m (r ∷ rs)) whole) (sym (hits_cons r rs))
    (subst (λ ts. Covers ((h ++ hs) ++ ts) whole) (sym (misses_cons m r rs))
    (covers_both (h ++ hs) (s ++ ms) whole hits missed))

-- Texts of tallies

tallies_text : (ts : List Tally) → map tally_text ts ≡ map rule_text (map rule_in ts)
tallies_text [] = refl
tallies_text (t ∷ ts) = ap (λ xs. tally_text t ∷ xs) (tallies_text ts)

hits_text : (hs : List Hit) → map tally_text (map tally_of hs) ≡ map hit_text hs
hits_text [] = refl
hits_text (h ∷ hs) = ap (λ xs. hit_text h ∷ xs) (hits_text hs)

module _ (parts whole : List Tally) (j : AreJoined parts whole) where
  rules_each : Covers (map rule_in whole) (map rule_in parts)
  rules_each =
      subst (λ rs. Covers rs (map rule_in parts)) (sym (rules_of whole))
      (subst (λ rs. Covers (map (λ (h : PlainHit). h.rule) (map hit_in whole)) rs) (sym (rules_of parts))
      (covers_map (λ (h : PlainHit). h.rule) (map hit_in whole) (map hit_in parts) j.each))

  texts_each : Covers (map tally_text whole) (map tally_text parts)
  texts_each =
      subst (λ ts. Covers ts (map tally_text parts)) (sym (tallies_text whole))
      (subst (λ ts. Covers (map rule_text (map rule_in whole)) ts) (sym (tallies_text parts))
      (covers_map rule_text (map rule_in whole) (map rule_in parts) rules_each))

  texts_all : Covers (map tally_text parts) (map tally_text whole)
  texts_all =
      subst (λ ts. Covers ts (map tally_text whole)) (sym (tallies_text parts))
      (subst (λ ts. Covers (map rule_text (map rule_in parts)) ts) (sym (tallies_text whole))
      (covers_map rule_text (map rule_in parts) (map rule_in whole) j.all))

hits_total : (hs : List Hit) → total (map tally_of hs) ≡ length hs
hits_total [] = refl
hits_total (h ∷ hs) = omega (arith, hits_total hs, sum_by-cons count_in (tally_of h) (map tally_of hs))

-- All units

module _ (m : Machine) (us : List PlainUnit) (reports : List BlockReport) (tallies : List Tally) (misses : List Pair)
    (h : AllTold m us reports) (j : AreJoined (map tally_of (hits_in reports)) tallies)
    (e : misses ≡ missed_in reports) where
  texts : AreTexts m reports h.pairs
  texts = told_texts m reports h.pairs h.reports_are h.tell

  hits_are : map tally_text (map tally_of (hits_in reports)) ≡ hits_told reports
  hits_are = hits_text (hits_in reports)

  hits_each : Covers (map tally_text tallies) (hits_told reports)
  hits_each = subst (Covers (map tally_text tallies)) hits_are
      (texts_each (map tally_of (hits_in reports)) tallies j)

  hits_all : Covers (hits_told reports) (map tally_text tallies)
  hits_all = subst (λ ts. Covers ts (map tally_text tallies)) hits_are
      (texts_all (map tally_of (hits_in reports)) tallies j)

  missed_text : map (miss_text m) misses ≡ misses_told m reports
  missed_text = ap (map (miss_text m)) e

  pub are_told : AreTold m us tallies misses
  are_told =
      let apart = hits_told reports ++ misses_told m reports in
      let mine = misses_told m reports in
      let ts = map tally_text tallies in
      record {
        pairs = h.pairs;
        tried = h.tried;
        count = omega (
          arith,
          j.count,
          hits_total (hits_in reports),
          length-flat_map (λ (r : BlockReport). r.used.items) reports,
          ap length e,
          length-flat_map (λ (r : BlockReport). r.misses.items) reports,
          tries_are reports h.pairs h.tell,
        );
        each = subst (λ xs. Covers (ts ++ xs) (rule_texts m h.pairs)) (sym missed_text)
            (covers_through (ts ++ mine) apart (rule_texts m h.pairs)
            (covers_beside ts mine (hits_told reports) mine hits_each (covers_self mine))
            (covers_through apart (all_texts m reports) (rule_texts m h.pairs) (told_whole m reports) texts.each));
        all = subst (λ xs. Covers (rule_texts m h.pairs) (ts ++ xs)) (sym missed_text)
            (covers_through (rule_texts m h.pairs) (all_texts m reports) (ts ++ mine) texts.all
            (covers_through (all_texts m reports) apart (ts ++ mine) (told_apart m reports)
            (covers_beside (hits_told reports) mine ts mine hits_all (covers_self mine))));
      }

  -- the hits of all reports
  each_hit : (rs : List BlockReport) → All (IsReport m) rs → All (IsHit m) (hits_in rs)
  each_hit [] a = All-nil (IsHit m)
  each_hit (r ∷ rs) a =
      subst (All (IsHit m)) (sym (flat_map-cons (λ (q : BlockReport). q.used.items) r rs))
      (All-append (IsHit m) r.used.items (hits_in rs) (All-head (IsReport m) r rs a).hits
      (each_hit rs (All-tail (IsReport m) r rs a)))

  tallies_by : (ts : List Tally) → All (IsHitBy m) (map hit_in ts) → All (IsTally m) ts
  tallies_by ts a = λ k d lt.
      let at : IsHitBy m (hit_in (get_or ts k d)) =
      subst (IsHitBy m) (get_or-map hit_in ts k d (hit_in d) lt)
      (a k (hit_in d) (omega (arith, length-map ts hit_in))) in
      record { formed = at.formed; rule = at.rule }

  pub tallies_are : All (IsTally m) tallies
  tallies_are =
      let hits = hits_in reports in
      let parts = map tally_of hits in
      let plain : All (IsHitBy m) (map hit_in parts) =
      All-map (IsHitBy m) hit_in parts
      (All-map (λ t. IsHitBy m (hit_in t)) tally_of hits
      (All-weaker (IsHit m) (λ x. IsHitBy m (hit_in (tally_of x)))
      (λ x is. record { formed = is.formed; rule = is.rule }) hits (each_hit reports h.reports_are))) in
      tallies_by tallies
      (All-weaker (λ x. Contains (map hit_in parts) x) (IsHitBy m)
      (λ x c. All-contains (IsHitBy m) (map hit_in parts) x plain c) (map hit_in tallies) j.each)

  each_miss : (rs : List BlockReport) → All (IsReport m) rs → All WellFormedPair (map pair_of (missed_in rs))
  each_miss [] a = All-nil WellFormedPair
  each_miss (r ∷ rs) a =
      let both : map pair_of (missed_in (r ∷ rs)) ≡ map pair_of r.misses.items ++ map pair_of (missed_in rs) =
      ap (map pair_of) (flat_map-cons (λ (q : BlockReport). q.misses.items) r rs)
      ∙ map-append pair_of r.misses.items (missed_in rs) in
      subst (All WellFormedPair) (sym both)
      (All-append WellFormedPair (map pair_of r.misses.items) (map pair_of (missed_in rs))
      (All-head (IsReport m) r rs a).misses (each_miss rs (All-tail (IsReport m) r rs a)))

  pub misses_are : All WellFormedPair (map pair_of misses)
  misses_are = subst (λ ps. All WellFormedPair (map pair_of ps)) (sym e) (each_miss reports h.reports_are)
