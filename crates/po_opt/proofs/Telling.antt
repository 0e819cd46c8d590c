-- What the works of all units tell, and the briefs of them.
use Rattle.std.proofs.Common.{◌≡◌, ℕ, suc, ◌+◌, List, [], ◌∷◌, ◌++◌, length, map, refl, sym, ◌∙◌, ap, subst}
use Rattle.std.proofs.Common.{arith, get_or}
use Rattle.std.specs.Prelude.{Some}
use Rattle.std.specs.List.{All, AllZip, flat_map, sum_by}
use Rattle.std.proofs.lemmas.List.Elements.{All-nil, All-cons, All-append, All-contains}
use Rattle.std.proofs.lemmas.List.Sums.{sum_by-cons, sum_by-append}
use Rattle.std.proofs.lemmas.Grind.{flat_map-append}
use Rattle.std.proofs.lemmas.List.{length-append, length-map, get_or-map, map-append}
use Rattle.po_model.specs.declared.code.UnitCode.{UnitCode}
use Rattle.po_model.specs.declared.machine.Machine.{Machine}
use Rattle.po_model.specs.Blocks.{code_of}
use Rattle.po_model.specs.Canonical.{Canonical}
use Rattle.po_model.specs.Generalised.{generalised}
use Rattle.po_model.specs.Holed.{PlainRule}
use Rattle.po_model.specs.Learning.{Try, Used, Missed, GoesBy, PlainHit, hits, misses, steps_of}
use Rattle.po_model.specs.Lookups.{AreCanonical}
use Rattle.po_model.specs.Pairs.{PlainPair, pair_of, WellFormedPair}
use Rattle.po_model.specs.Scanned.{Scan, Finished, ScanStep, Tried, Ended, IsSlowed, tried}
use Rattle.po_model.specs.UnitCodes.{PlainUnit, unit_of}
use Rattle.po_fore.specs.declared.report.Hit.{Hit}
use Rattle.po_fore.specs.declared.report.BlockReport.{BlockReport}
use Rattle.po_fore.specs.Reports.{hit_of, TellsOf}
use Rattle.po_settle.specs.Lines.{AreTried}
use Rattle.po_crew.specs.declared.unit.Work.{Work}
use Rattle.po_crew.specs.Units.{Passed, ArePassed}
use Rattle.po_crew.specs.Units.{misses_in as crew_misses}
use Rattle.po_crew.proofs.Working.{block_steps, all_steps, goes_all}
use Rattle.po_tally.specs.declared.brief.Brief.{Brief}
use Rattle.po_tally.specs.declared.tally.Tally.{Tally}
use Rattle.po_tally.specs.Briefs.{IsBriefOf, hits_in, missed_in}
use Rattle.po_tally.specs.Tallies.{AreJoined, tally_of}
use Rattle.po_tally.proofs.Joining.{joined_self, joined_beside}
use Rattle.po_team.specs.Works.{IsWorkBy, AreWorksOf, taken_in, dropped_in}
use Rattle.po_opt.specs.Told.{units_of, AreSlowed, IsHit, codes_in, tallies_in, misses_in}
use Rattle.po_opt.proofs.Reports.{IsReport, hit_weight, miss_weight, weight_in, TellOf, miss_count}
use Rattle.po_opt.proofs.Sums.{sum_map}

-- Tries

abbrev pair_weight : (PlainPair → ℕ) → PlainHit → ℕ
pair_weight weight h = weight h.pair

tries_weigh : (weight : PlainPair → ℕ) (xs : List Try)
    → sum_by (pair_weight weight) (hits xs) + sum_by weight (misses xs) ≡ sum_by weight (tried (steps_of xs))
tries_weigh weight [] = refl
tries_weigh weight (Used p r ∷ xs) =
    omega (
      arith,
      tries_weigh weight xs,
      sum_by-cons (pair_weight weight) (record { pair = p; rule = r }) (hits xs),
      sum_by-cons weight p (tried (steps_of xs)),
    )
tries_weigh weight (Missed p ∷ xs) =
    omega (
      arith,
      tries_weigh weight xs,
      sum_by-cons weight p (misses xs),
      sum_by-cons weight p (tried (steps_of xs)),
    )

-- a hit of the tries has the rule of its pair
pub record IsHitBy (m : Machine) (h : PlainHit) : Type 0 where
  pub formed : WellFormedPair h.pair
  pub rule : h.rule ≡ generalised m h.pair

hits_by : (m : Machine) (rs : List PlainRule) (s t : Scan) (xs : List Try) → AreCanonical m rs → GoesBy m rs s xs t
    → All (IsHitBy m) (hits xs)
hits_by m rs s t [] canonical g = All-nil (IsHitBy m)
hits_by m rs s t (Used p r ∷ xs) canonical (u, x, g) =
    All-cons (IsHitBy m) (record { pair = p; rule = r }) (hits xs) (record {
      formed = x.formed;
      rule = sym ((All-contains (Canonical m) rs r canonical x.looked.listed).rule p x.formed x.looked.instance);
    }) (hits_by m rs u t xs canonical g)
hits_by m rs s t (Missed p ∷ xs) canonical (u, x, g) = hits_by m rs u t xs canonical g

misses_by : (m : Machine) (rs : List PlainRule) (s t : Scan) (xs : List Try) → GoesBy m rs s xs t
    → All WellFormedPair (misses xs)
misses_by m rs s t [] g = All-nil WellFormedPair
misses_by m rs s t (Used p r ∷ xs) (u, x, g) = misses_by m rs u t xs g
misses_by m rs s t (Missed p ∷ xs) (u, x, g) =
    All-cons WellFormedPair p (misses xs) x.formed (misses_by m rs u t xs g)

-- Reports

hits_are : (m : Machine) (hs : List Hit) → All (IsHitBy m) (map hit_of hs) → All (IsHit m) hs
hits_are m hs a = λ k d h.
    let at : IsHitBy m (hit_of (get_or hs k d)) =
    subst (IsHitBy m) (get_or-map hit_of hs k d (hit_of d) h)
    (a k (hit_of d) (omega (arith, length-map hs hit_of))) in
    record { formed = at.formed; rule = at.rule }

report_is : (m : Machine) (rs : List PlainRule) (s t : Scan) (xs : List Try) (r : BlockReport) → AreCanonical m rs
    → GoesBy m rs s xs t → TellsOf r xs → IsReport m r
report_is m rs s t xs r canonical g told = record {
  hits = hits_are m r.used.items (subst (All (IsHitBy m)) (sym told.used) (hits_by m rs s t xs canonical g));
  misses = subst (All WellFormedPair) (sym told.misses) (misses_by m rs s t xs g);
}

report_weighs : (weight : PlainPair → ℕ) (xs : List Try) (r : BlockReport) → TellsOf r xs
    → weight_in weight r ≡ sum_by weight (tried (steps_of xs))
report_weighs weight xs r told =
    let used : sum_by (hit_weight weight) r.used.items ≡ sum_by (pair_weight weight) (hits xs) =
    sym (sum_map (pair_weight weight) hit_of r.used.items) ∙ ap (sum_by (pair_weight weight)) told.used in
    let missed : sum_by (miss_weight weight) r.misses.items ≡ sum_by weight (misses xs) =
    sym (sum_map weight pair_of r.misses.items) ∙ ap (sum_by weight) told.misses in
    omega (arith, used, missed, tries_weigh weight xs)

tried_push : (xs : List ScanStep) → tried (xs ++ Ended ∷ []) ≡ tried xs
tried_push [] = refl
tried_push (Tried p ∷ xs) = ap (λ ps. p ∷ ps) (tried_push xs)
tried_push (Ended ∷ xs) = tried_push xs

tried_both : (xs ys : List ScanStep) → tried (xs ++ ys) ≡ tried xs ++ tried ys
tried_both [] ys = refl
tried_both (Tried p ∷ xs) ys = ap (λ ps. p ∷ ps) (tried_both xs ys)
tried_both (Ended ∷ xs) ys = tried_both xs ys

-- Blocks

abbrev reports_of : List Passed → List BlockReport
reports_of bs = map (λ b. b.report) bs

blocks_are : (m : Machine) (told : List PlainRule) (s t : Scan) (bs : List Passed) → ArePassed m told s bs t
    → All (IsReport m) (reports_of bs)
blocks_are m told s t [] e = All-nil (IsReport m)
blocks_are m told s t (b ∷ bs) (u, p, ps) =
    All-cons (IsReport m) b.report (reports_of bs)
    (report_is m b.rules s p.behind b.tries b.report p.shown.0 p.goes p.reported) (blocks_are m told u t bs ps)

blocks_weigh : (m : Machine) (told : List PlainRule) (s t : Scan) (bs : List Passed) → ArePassed m told s bs t
    → TellOf (reports_of bs) (tried (all_steps bs))
blocks_weigh m told s t [] e weight = refl
blocks_weigh m told s t (b ∷ bs) (u, p, ps) weight =
    let first : tried (block_steps b ++ all_steps bs) ≡ tried (steps_of b.tries) ++ tried (all_steps bs) =
    tried_both (block_steps b) (all_steps bs)
    ∙ ap (λ xs. xs ++ tried (all_steps bs)) (tried_push (steps_of b.tries)) in
    omega (
      arith,
      report_weighs weight b.tries b.report p.reported,
      blocks_weigh m told u t bs ps weight,
      ap (sum_by weight) first,
      sum_by-append weight (tried (steps_of b.tries)) (tried (all_steps bs)),
      sum_by-cons (weight_in weight) b.report (reports_of bs),
    )

-- A work

-- a work and the pairs that were tried for it
pub record IsTold (m : Machine) (u : PlainUnit) (w : Work) : Type 0 where
  pub pairs : List PlainPair
  pub slowed : IsSlowed m u.code pairs (code_of w.unit.code)
  pub reports : All (IsReport m) w.reports.items
  pub tell : TellOf w.reports.items pairs

-- by a worker that was told of some rules
abbrev IsWorkOf : Machine → PlainUnit → Work → Type 0
IsWorkOf m u w = (told : List PlainRule) × IsWorkBy m told u w

work_told : (m : Machine) (u : PlainUnit) (w : Work) → IsWorkOf m u w → IsTold m u w
work_told m u w (told, h) =
    let p = h.passed in record {
      pairs = tried (all_steps p.blocks);
      slowed = (
        all_steps p.blocks,
        (p.start, p.starts, goes_all m told p.start (Finished (code_of w.unit.code)) p.blocks p.passed),
        refl,
      );
      reports = subst (All (IsReport m)) (sym p.reported)
          (blocks_are m told p.start (Finished (code_of w.unit.code)) p.blocks p.passed);
      tell = λ weight. ap (sum_by (weight_in weight)) p.reported
          ∙ blocks_weigh m told p.start (Finished (code_of w.unit.code)) p.blocks p.passed weight;
    }

-- All works

missed : (reports : List BlockReport) → length (crew_misses reports) ≡ miss_count reports
missed [] = refl
missed (r ∷ rs) = omega (
  arith,
  missed rs,
  length-map r.misses.items pair_of,
  length-append (map pair_of r.misses.items) (crew_misses rs),
  sum_by-cons (λ (q : BlockReport). length q.misses.items) r rs,
)

-- the works are those of these codes, one after another
abbrev WorksOf : Machine → List UnitCode → List Work → Type 0
WorksOf m codes works = AllZip (λ c w. IsWorkOf m (unit_of c) w) codes works

-- the reports of all works, and what became of their misses
abbrev pub reports_in : List Work → List BlockReport
reports_in works = flat_map (λ w. w.reports.items) works

abbrev work_taken : List Work → ℕ
work_taken works = sum_by (λ w. w.taken) works

abbrev work_dropped : List Work → ℕ
work_dropped works = sum_by (λ w. w.dropped) works

-- Briefs

brief_units : (works : List Work) (briefs : List Brief) → AllZip IsBriefOf works briefs
    → codes_in briefs ≡ map (λ w. w.unit) works
brief_units [] [] h = refl
brief_units [] (b ∷ bs) h = absurd h
brief_units (w ∷ ws) [] h = absurd h
brief_units (w ∷ ws) (b ∷ bs) h =
    ap (λ (u : UnitCode). u ∷ codes_in bs) h.0.unit ∙ ap (λ us. w.unit ∷ us) (brief_units ws bs h.1)

pub brief_taken : (works : List Work) (briefs : List Brief) → AllZip IsBriefOf works briefs
    → (taken_in briefs ≡ work_taken works) × (dropped_in briefs ≡ work_dropped works)
brief_taken [] [] h = (refl, refl)
brief_taken [] (b ∷ bs) h = absurd h
brief_taken (w ∷ ws) [] h = absurd h
brief_taken (w ∷ ws) (b ∷ bs) h =
    let others = brief_taken ws bs h.1 in (
      omega (
        arith,
        others.0,
        h.0.taken,
        sum_by-cons (λ (c : Brief). c.taken) b bs,
        sum_by-cons (λ (v : Work). v.taken) w ws,
      ),
      omega (
        arith,
        others.1,
        h.0.dropped,
        sum_by-cons (λ (c : Brief). c.dropped) b bs,
        sum_by-cons (λ (v : Work). v.dropped) w ws,
      ),
    )

pub brief_misses : (works : List Work) (briefs : List Brief) → AllZip IsBriefOf works briefs
    → misses_in briefs ≡ missed_in (reports_in works)
brief_misses [] [] h = refl
brief_misses [] (b ∷ bs) h = absurd h
brief_misses (w ∷ ws) [] h = absurd h
brief_misses (w ∷ ws) (b ∷ bs) h =
    ap (λ ps. ps ++ misses_in bs) h.0.misses ∙ ap (λ ps. missed_in w.reports.items ++ ps) (brief_misses ws bs h.1)
    ∙ sym (flat_map-append (λ (r : BlockReport). r.misses.items) w.reports.items (reports_in ws))

abbrev hit_tallies : List BlockReport → List Tally
hit_tallies reports = map tally_of (hits_in reports)

pub brief_tallies : (works : List Work) (briefs : List Brief) → AllZip IsBriefOf works briefs
    → AreJoined (hit_tallies (reports_in works)) (tallies_in briefs)
brief_tallies [] [] h = joined_self []
brief_tallies [] (b ∷ bs) h = absurd h
brief_tallies (w ∷ ws) [] h = absurd h
brief_tallies (w ∷ ws) (b ∷ bs) h =
    let both : hit_tallies (reports_in (w ∷ ws)) ≡ hit_tallies w.reports.items ++ hit_tallies (reports_in ws) =
    ap (map tally_of) (flat_map-append (λ (r : BlockReport). r.used.items) w.reports.items (reports_in ws))
    ∙ map-append tally_of (hits_in w.reports.items) (hits_in (reports_in ws)) in
    subst (λ ts. AreJoined ts (tallies_in (b ∷ bs))) (sym both)
    (joined_beside (hit_tallies w.reports.items) (hit_tallies (reports_in ws)) b.tallies.items (tallies_in bs)
    h.0.tallies (brief_tallies ws bs h.1))

module _ (m : Machine) where
  given : (c d : UnitCode) (w : Work) → Some d ≡ Some c → IsWorkOf m (unit_of c) w → IsWorkOf m (unit_of d) w
  given c d w e h =
      let same : d ≡ c = cc in
      subst (λ (x : UnitCode). IsWorkOf m (unit_of x) w) (sym same) h

  -- the works behind briefs
  pub record AreBehind (codes : List UnitCode) (briefs : List Brief) : Type 0 where
    pub works : List Work
    pub works_are : WorksOf m codes works
    pub briefs_are : AllZip IsBriefOf works briefs

  pub behind : (codes : List UnitCode) (briefs : List Brief) → AreWorksOf m codes briefs → AreBehind codes briefs
  behind [] [] h = record { works = []; works_are = tt; briefs_are = tt }
  behind [] (b ∷ bs) h = absurd (omega (arith, h.count))
  behind (c ∷ cs) [] h = absurd (omega (arith, h.count))
  behind (c ∷ cs) (b ∷ bs) h =
      let (told, given_by) = h.each 0 b refl in
      let (w, by, brief) = given_by in
      let (u, at, is) = by in
      let others = behind cs bs (record {
        count = omega (arith, h.count);
        each = λ i v e. h.each (suc i) v e;
      }) in
      record {
        works = w ∷ others.works;
        works_are = (given u c w at (told, is), others.works_are);
        briefs_are = (brief, others.briefs_are);
      }

  slowed_all : (codes : List UnitCode) (works : List Work) → WorksOf m codes works
      → AreSlowed m (units_of codes) (units_of (map (λ w. w.unit) works))
  slowed_all [] [] h = tt
  slowed_all [] (w ∷ ws) h = absurd h
  slowed_all (c ∷ cs) [] h = absurd h
  slowed_all (c ∷ cs) (w ∷ ws) h = ((_, h.0.1.slowed), slowed_all cs ws h.1)

  -- the pairs that were tried for all units, and the reports of them
  pub record AllTold (us : List PlainUnit) (reports : List BlockReport) : Type 0 where
    pub pairs : List PlainPair
    pub tried : AreTried m us pairs
    pub tell : TellOf reports pairs
    pub reports_are : All (IsReport m) reports

  pub told_all : (codes : List UnitCode) (works : List Work) → WorksOf m codes works
      → AllTold (units_of codes) (reports_in works)
  told_all [] [] h = record {
    pairs = [];
    tried = refl;
    tell = λ weight. refl;
    reports_are = All-nil (IsReport m);
  }
  told_all [] (w ∷ ws) h = absurd h
  told_all (c ∷ cs) [] h = absurd h
  told_all (c ∷ cs) (w ∷ ws) h =
      let here = work_told m (unit_of c) w h.0 in
      let others = told_all cs ws h.1 in
      record {
        pairs = here.pairs ++ others.pairs;
        tried = (here.pairs, others.pairs, code_of w.unit.code, here.slowed, others.tried, refl);
        tell = λ weight. omega (
          arith,
          here.tell weight,
          others.tell weight,
          sum_by-append (weight_in weight) w.reports.items (reports_in ws),
          sum_by-append weight here.pairs others.pairs,
        );
        reports_are = All-append (IsReport m) w.reports.items (reports_in ws) here.reports others.reports_are;
      }

  pub misses_all : (codes : List UnitCode) (works : List Work) → WorksOf m codes works
      → work_taken works + work_dropped works ≡ miss_count (reports_in works)
  misses_all [] [] h = refl
  misses_all [] (w ∷ ws) h = absurd h
  misses_all (c ∷ cs) [] h = absurd h
  misses_all (c ∷ cs) (w ∷ ws) h =
      omega (
        arith,
        h.0.1.posted,
        missed w.reports.items,
        misses_all cs ws h.1,
        sum_by-append (λ (r : BlockReport). length r.misses.items) w.reports.items (reports_in ws),
        sum_by-cons (λ (v : Work). v.taken) w ws,
        sum_by-cons (λ (v : Work). v.dropped) w ws,
      )

  pub slowed_behind : (codes : List UnitCode) (briefs : List Brief) (b : AreBehind codes briefs)
      → AreSlowed m (units_of codes) (units_of (codes_in briefs))
  slowed_behind codes briefs b =
      subst (λ us. AreSlowed m (units_of codes) (units_of us)) (sym (brief_units b.works briefs b.briefs_are))
      (slowed_all codes b.works b.works_are)
