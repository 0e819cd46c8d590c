-- Block after block of a worker's unit.
use Rattle.std.proofs.Common.{◌≡◌, ℕ, suc, ◌+◌, ◌<◌, Bool, true, false, List, [], ◌∷◌, ◌++◌, length, map, refl, sym}
use Rattle.std.proofs.Common.{◌∙◌, ap, subst, arith, append_assoc}
use Rattle.std.specs.List.{flat_map}
use Rattle.std.proofs.lemmas.Grind.{flat_map-append}
use Rattle.std.proofs.lemmas.List.{append-nil, length-append, map-append}
use Rattle.std.proofs.lemmas.List.Sums.{sum_by_push, sum_by-cons}
use mathlib.Core.List.{IsPrefix}
use Rattle.po_model.specs.declared.machine.Machine.{Machine}
use Rattle.po_model.specs.Blocks.{PlainBlock}
use Rattle.po_model.specs.Combined.{combination}
use Rattle.po_model.specs.Holed.{PlainRule}
use Rattle.po_model.specs.Canonical.{Canonical}
use Rattle.po_model.specs.Lookups.{AreCanonical}
use Rattle.po_model.specs.Learning.{Try, Used, Missed, GoesBy, misses, steps_of}
use Rattle.po_model.specs.Pairs.{PlainPair, pair_of, WellFormedPair}
use Rattle.po_model.specs.Scanned.{Scan, Finished, ScanStep, Tried, Ended, pair_ready, after_try, AfterEnd, Answers}
use Rattle.po_model.specs.Scanned.{Goes, IsPassStart, tried}
use Rattle.po_model.specs.UnitCodes.{PlainUnit}
use Rattle.po_slow.specs.Passes.{IsSlowedUnit}
use Rattle.po_slow.proofs.Steps.{goes_append, tried_append}
use Rattle.po_slow.proofs.Work.{work, step_less}
use Rattle.po_fore.specs.declared.report.BlockReport.{BlockReport}
use Rattle.po_crew.specs.declared.unit.Course.{Course}
use Rattle.po_crew.specs.Posted.{ArePosted}
use Rattle.po_crew.specs.Units.{IsShown, bare_count, Passed, IsPassed, ArePassed, IsScanned, misses_in, tries_in}
use Rattle.po_crew.specs.Units.{HasPassed, IsWorked}
use Rattle.po_rule.specs.Posts.{RoseBy}
use Rattle.po_fore.specs.Reports.{IsBlockDone}
use Rattle.std.specs.List.{All}
use Rattle.std.specs.Prelude.{Result, Ok, Err, IfOk, OnOk}
use Rattle.std.proofs.lemmas.List.Elements.{All-nil, All-cons}
use Rattle.po_crew.proofs.Posting.{not_risen, posted_none, posted_append}

-- The door

pub prefix_same : {A : Type 0} (xs ys : List A) → ys ≡ xs → IsPrefix xs ys
prefix_same xs ys e = ([], append-nil xs ∙ sym e)

pub prefix_trans : {A : Type 0} (xs ys zs : List A) → IsPrefix xs ys → IsPrefix ys zs → IsPrefix xs zs
prefix_trans xs ys zs p q = (p.0 ++ q.0, sym (append_assoc xs p.0 q.0) ∙ (ap (λ w. w ++ q.0) p.1 ∙ q.1))

-- rules that begin with what was told later begin with what was told before
shown_before : (m : Machine) (told more : List PlainRule) (bare : Bool) (rules : List PlainRule) → IsPrefix told more
    → IsShown m more bare rules → IsShown m told bare rules
shown_before m told more true rules p s = s
shown_before m told more false rules p (canonical, s) = (canonical, prefix_trans told more rules p s)

passed_before : (m : Machine) (told more : List PlainRule) (s : Scan) (b : Passed) (t : Scan) → IsPrefix told more
    → IsPassed m more s b t → IsPassed m told s b t
passed_before m told more s b t p h = record {
  shown = shown_before m told more b.bare b.rules p h.shown;
  behind = h.behind;
  goes = h.goes;
  slowly = h.slowly;
  onward = h.onward;
  reported = h.reported;
}

-- Blocks

passed_push : (m : Machine) (told : List PlainRule) (s t u : Scan) (bs : List Passed) (b : Passed)
    → ArePassed m told s bs t → IsPassed m told t b u → ArePassed m told s (bs ++ b ∷ []) u
passed_push m told s t u [] b e p = (u, subst (λ v. IsPassed m told v b u) e p, refl)
passed_push m told s t u (a ∷ bs) b (v, q, qs) p = (v, q, passed_push m told v t u bs b qs p)

-- the scan stands here, its blocks are reported, and all that was missed was posted and counted
pub record IsWorking (m : Machine) (told : List PlainRule) (code : List PlainBlock) (s : Scan) (c : Course) (n k : ℕ)
    (before after : List PlainPair) (fulls now : ℕ) : Type 0 where
  pub passed : HasPassed m told code s c.reports.items c.bare
  pub ticks : k ≡ n + length (misses_in c.reports.items)
  pub posted : ArePosted (misses_in c.reports.items) before after fulls now c.taken c.dropped

pub working_begin : (m : Machine) (told : List PlainRule) (code : List PlainBlock) (s : Scan) (c : Course) (n : ℕ)
    (before : List PlainPair) (fulls : ℕ) → IsPassStart code s → c.reports.items ≡ [] → c.bare ≡ 0 → c.taken ≡ 0
    → c.dropped ≡ 0 → IsWorking m told code s c n n before before fulls fulls
working_begin m told code s c n before fulls start none bare taken dropped = record {
  passed = record {
    start = s;
    starts = start;
    blocks = [];
    passed = refl;
    reported = none;
    bare_blocks = bare;
  };
  ticks = omega (arith, ap (λ rs. length (misses_in rs)) none);
  posted = subst (λ rs. ArePosted (misses_in rs) before before fulls fulls c.taken c.dropped) (sym none)
      (subst (λ t. ArePosted [] before before fulls fulls t c.dropped) (sym taken)
      (subst (λ d. ArePosted [] before before fulls fulls 0 d) (sym dropped) (posted_none before fulls)));
}

misses_push : (rs : List BlockReport) (r : BlockReport) → misses_in (rs ++ r ∷ []) ≡ misses_in rs ++ misses_in (r ∷ [])
misses_push rs r = flat_map-append (λ (q : BlockReport). map pair_of q.misses.items) rs (r ∷ [])

pub working_next : (m : Machine) (told more : List PlainRule) (code : List PlainBlock) (s t : Scan) (c d : Course)
    (n k l : ℕ) (x y z : List PlainPair) (f g h : ℕ) → IsPrefix told more → IsWorking m told code s c n k x y f g
    → IsWorked m more s t c d k l y z g h → IsWorking m told code t d n l x z f h
working_next m told more code s t c d n k l x y z f g h prefix w b =
    let p = w.passed in
    let new : misses_in d.reports.items ≡ misses_in c.reports.items ++ misses_in (b.block.report ∷ []) =
    ap misses_in b.reports ∙ misses_push c.reports.items b.block.report in
    let both : ArePosted (misses_in c.reports.items ++ misses_in (b.block.report ∷ [])) x z f h (c.taken + b.taken)
    (c.dropped + b.dropped) =
    posted_append (misses_in c.reports.items) (misses_in (b.block.report ∷ [])) x y z f g h c.taken b.taken c.dropped
    b.dropped w.posted b.posted in
    record {
      passed = record {
        start = p.start;
        starts = p.starts;
        blocks = p.blocks ++ b.block ∷ [];
        passed = passed_push m told p.start s t p.blocks b.block p.passed
            (passed_before m told more s b.block t prefix b.passed);
        reported = b.reports ∙ ap (λ rs. rs ++ b.block.report ∷ []) p.reported
            ∙ sym (map-append (λ (a : Passed). a.report) p.blocks (b.block ∷ []));
        bare_blocks = b.bare_blocks ∙ ap (λ n. n + bare_count b.block.bare) p.bare_blocks
            ∙ sym (sum_by_push (λ (a : Passed). bare_count a.bare) p.blocks b.block);
      };
      ticks = omega (
        arith,
        w.ticks,
        b.ticks,
        ap length new,
        length-append (misses_in c.reports.items) (misses_in (b.block.report ∷ [])),
      );
      posted = subst (λ ps. ArePosted ps x z f h d.taken d.dropped) (sym new)
          (subst (λ a. ArePosted (misses_in c.reports.items ++ misses_in (b.block.report ∷ [])) x z f h a d.dropped)
          (sym b.more_taken)
          (subst (λ a.
          ArePosted (misses_in c.reports.items ++ misses_in (b.block.report ∷ [])) x z f h (c.taken + b.taken) a)
          (sym b.more_dropped) both));
    }

-- a block leaves less work
pub ended_less : (answer : Answers) (s t : Scan) (xs : List ScanStep) → Goes answer s (xs ++ Ended ∷ []) t
    → work t < work s
ended_less answer s t [] g = step_less answer s t Ended g
ended_less answer s t (Tried p ∷ xs) (e, g) =
    let u = after_try (answer p) s in
    let one : work u < work s = step_less answer s u (Tried p) (e, refl) in
    let others : work t < work u = ended_less answer u t xs g in
    omega arith
ended_less answer s t (Ended ∷ xs) (u, a, g) =
    let one : work u < work s = step_less answer s u Ended (u, a, refl) in
    let others : work t < work u = ended_less answer u t xs g in
    omega arith

-- the steps of one block, and of all
abbrev pub block_steps : Passed → List ScanStep
block_steps b = steps_of b.tries ++ Ended ∷ []

abbrev pub all_steps : List Passed → List ScanStep
all_steps [] = []
all_steps (b ∷ bs) = block_steps b ++ all_steps bs

goes_block : (m : Machine) (told : List PlainRule) (s : Scan) (b : Passed) (t : Scan) → IsPassed m told s b t
    → Goes (combination m) s (block_steps b) t
goes_block m told s b t p = goes_append (combination m) s p.behind t (steps_of b.tries) (Ended ∷ []) p.slowly
    (t, p.onward, refl)

pub worked_less : (m : Machine) (told : List PlainRule) (s t : Scan) (c d : Course) (k l : ℕ) (y z : List PlainPair)
    (g h : ℕ) → IsWorked m told s t c d k l y z g h → work t < work s
worked_less m told s t c d k l y z g h b = ended_less (combination m) s t (steps_of b.block.tries)
    (goes_block m told s b.block t b.passed)

pub goes_all : (m : Machine) (told : List PlainRule) (s t : Scan) (bs : List Passed) → ArePassed m told s bs t
    → Goes (combination m) s (all_steps bs) t
goes_all m told s t [] e = e
goes_all m told s t (b ∷ bs) (u, p, ps) = goes_append (combination m) s u t (block_steps b) (all_steps bs)
    (goes_block m told s b u p) (goes_all m told u t bs ps)

steps_length : (xs : List Try) → length (tried (steps_of xs)) ≡ length xs
steps_length [] = refl
steps_length (x ∷ xs) = ap suc (steps_length xs)

tries_all : (m : Machine) (told : List PlainRule) (s t : Scan) (bs : List Passed) → ArePassed m told s bs t
    → tries_in (map (λ b. b.report) bs) ≡ length (tried (all_steps bs))
tries_all m told s t [] e = refl
tries_all m told s t (b ∷ bs) (u, p, ps) =
    let before : tries_in (map (λ (a : Passed). a.report) bs) ≡ length (tried (all_steps bs)) =
    tries_all m told u t bs ps in
    let both : length (tried (block_steps b ++ all_steps bs))
    ≡ length (tried (block_steps b)) + length (tried (all_steps bs)) =
    tried_append (block_steps b) (all_steps bs) in
    let here : length (tried (block_steps b)) ≡ length (tried (steps_of b.tries)) + 0 =
    tried_append (steps_of b.tries) (Ended ∷ []) in
    let more : tries_in (map (λ (a : Passed). a.report) (b ∷ bs))
    ≡ b.report.tried + tries_in (map (λ (a : Passed). a.report) bs) =
    sum_by-cons (λ (r : BlockReport). r.tried) b.report (map (λ (a : Passed). a.report) bs) in
    let all : b.report.tried + tries_in (map (λ (a : Passed). a.report) bs)
    ≡ length (tried (block_steps b ++ all_steps bs)) =
    omega (arith, before, both, here, p.reported.tried, steps_length b.tries) in
    more ∙ all

-- all passes were made
pub working_end : (m : Machine) (told : List PlainRule) (u v : PlainUnit) (reports : List BlockReport) (bare : ℕ)
    → v ≡ record u { code = v.code } → HasPassed m told u.code (Finished v.code) reports bare
    → IsSlowedUnit m u v (tries_in reports)
working_end m told u v reports bare same p = record {
  same = same;
  pairs = tried (all_steps p.blocks);
  slowed =
      (all_steps p.blocks, (p.start, p.starts, goes_all m told p.start (Finished v.code) p.blocks p.passed), refl);
  count = ap tries_in p.reported ∙ tries_all m told p.start (Finished v.code) p.blocks p.passed;
}

-- One block

pub none_canonical : (m : Machine) (rs : List PlainRule) → rs ≡ [] → AreCanonical m rs
none_canonical m rs e = subst (AreCanonical m) (sym e) (All-nil (Canonical m))

pub scanned_by : (m : Machine) (told rules : List PlainRule) (bare given : Bool) (s t : Scan) (n k : ℕ)
    (r : BlockReport)
    → given ≡ bare → IsShown m told bare rules → IsBlockDone m rules s t n k r → IsScanned m told given s t n k r
scanned_by m told rules bare given s t n k r e shown done = record {
  rules = rules;
  shown = subst (λ b. IsShown m told b rules) (sym e) shown;
  done = done;
}

missed_formed : (m : Machine) (rs : List PlainRule) (s t : Scan) (xs : List Try) → GoesBy m rs s xs t
    → All WellFormedPair (misses xs)
missed_formed m rs s t [] g = All-nil WellFormedPair
missed_formed m rs s t (Used p r ∷ xs) (u, x, g) = missed_formed m rs u t xs g
missed_formed m rs s t (Missed p ∷ xs) (u, x, g) =
    All-cons WellFormedPair p (misses xs) x.formed (missed_formed m rs u t xs g)

pub formed_misses : (m : Machine) (told : List PlainRule) (bare : Bool) (s t : Scan) (n k : ℕ) (r : BlockReport)
    → IsScanned m told bare s t n k r → All WellFormedPair (map pair_of r.misses.items)
formed_misses m told bare s t n k r x = subst (All WellFormedPair) (sym x.done.told.misses)
    (missed_formed m x.rules s t x.done.tries x.done.goes)

-- one block, whose misses were posted
pub worked_by : (m : Machine) (told : List PlainRule) (bare : Bool) (s u t : Scan) (n k : ℕ) (r : BlockReport)
    (c d : Course) (x y : List PlainPair) (f g taken dropped : ℕ) → IsScanned m told bare s u n k r → AfterEnd u t
    → ArePosted (map pair_of r.misses.items) x y f g taken dropped → d.reports.items ≡ c.reports.items ++ r ∷ []
    → d.bare ≡ c.bare + bare_count bare → d.taken ≡ c.taken + taken → d.dropped ≡ c.dropped + dropped
    → IsWorked m told s t c d n k x y f g
worked_by m told bare s u t n k r c d x y f g taken dropped scan after posted reports refused more_taken more_dropped =
    let alone : map pair_of r.misses.items ≡ misses_in (r ∷ []) = sym (append-nil (map pair_of r.misses.items)) in
    record {
      block = record { bare = bare; rules = scan.rules; tries = scan.done.tries; report = r };
      passed = record {
        shown = scan.shown;
        behind = u;
        goes = scan.done.goes;
        slowly = scan.done.slowly;
        onward = after;
        reported = scan.done.told;
      };
      reports = reports;
      bare_blocks = refused;
      ticks = omega (arith, scan.done.ticks, ap length scan.done.told.misses, ap length alone);
      taken = taken;
      dropped = dropped;
      posted = subst (λ ps. ArePosted ps x y f g taken dropped) alone posted;
      more_taken = more_taken;
      more_dropped = more_dropped;
    }
