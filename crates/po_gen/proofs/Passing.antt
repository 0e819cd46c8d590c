-- A scan goes on through a block and through all passes, and learns the rules of what it tries.
use Rattle.std.proofs.Common.{◌≡◌, ℕ, ◌<◌, List, [], ◌∷◌, ◌++◌, map, All, refl, sym, ◌∙◌, ap, subst, arith, append-nil}
use Rattle.std.specs.List.{Contains}
use Rattle.std.specs.Prelude.{Result, Ok, Err, OnOk}
use Rattle.std.proofs.lemmas.List.Elements.{All-nil, All-cons, All-head, All-tail, All-append, All-weaker}
use Rattle.std.proofs.lemmas.List.Elements.{All-contains, All-contains_itself, Contains-append_left}
use Rattle.std.proofs.lemmas.List.Elements.{Contains-append_right}
use Rattle.po_model.specs.declared.machine.Machine.{Machine}
use Rattle.po_model.specs.Blocks.{PlainBlock}
use Rattle.po_model.specs.Canonical.{Canonical}
use Rattle.po_model.specs.Combined.{combination}
use Rattle.po_model.specs.Generalised.{generalised}
use Rattle.po_model.specs.Holed.{PlainRule}
use Rattle.po_model.specs.Learning.{Try, Used, Missed, TriedOn, GoesBy, misses, steps_of}
use Rattle.po_model.specs.Lookups.{AreCanonical}
use Rattle.po_model.specs.Pairs.{PlainPair, pair_of, WellFormedPair}
use Rattle.po_model.specs.Scanned.{Scan, Finished, ScanStep, Tried, Ended, AfterEnd, Answers, after_try, Goes}
use Rattle.po_model.specs.Scanned.{IsPassStart, StandsAfter, tried}
use Rattle.po_slow.proofs.Steps.{goes_append, stands_append}
use Rattle.po_slow.proofs.Work.{work, step_less}
use Rattle.po_fore.specs.declared.report.BlockReport.{BlockReport}
use Rattle.po_fore.specs.Reports.{IsBlockDone}
use Rattle.po_gen.specs.Learnt.{rules_for, HasRules, Learns}
use Rattle.po_gen.specs.Passed.{HasPassed, IsPassed}
use Rattle.po_gen.proofs.RulesLearnt.{rules_append, learns_none, learns_append}

-- A block

-- the rule that was used is the rule of the pair
used_rule : (m : Machine) (rs : List PlainRule) (s t : Scan) (p : PlainPair) (r : PlainRule) → AreCanonical m rs
    → TriedOn m rs s (Used p r) t → generalised m p ≡ r
used_rule m rs s t p r canonical x =
    (All-contains (Canonical m) rs r canonical x.looked.listed).rule p x.formed x.looked.instance

-- a list that has the rules that were there, and those of the misses, has those of all pairs that were tried
tried_listed : (m : Machine) (rs new : List PlainRule) (s t : Scan) (xs : List Try) → AreCanonical m rs
    → GoesBy m rs s xs t → All (Contains new) rs → All (Contains new) (rules_for m (misses xs))
    → All (Contains new) (rules_for m (tried (steps_of xs)))
tried_listed m rs new s t [] canonical g kept missed = All-nil (Contains new)
tried_listed m rs new s t (Used p r ∷ xs) canonical (u, x, g) kept missed =
    let here : Contains new (generalised m p) = subst (Contains new) (sym (used_rule m rs s u p r canonical x))
    (All-contains (Contains new) rs r kept x.looked.listed) in
    All-cons (Contains new) (generalised m p) (rules_for m (tried (steps_of xs))) here
    (tried_listed m rs new u t xs canonical g kept missed)
tried_listed m rs new s t (Missed p ∷ xs) canonical (u, x, g) kept missed =
    All-cons (Contains new) (generalised m p) (rules_for m (tried (steps_of xs)))
    (All-head (Contains new) (generalised m p) (rules_for m (misses xs)) missed)
    (tried_listed m rs new u t xs canonical g kept (All-tail (Contains new) (generalised m p) (rules_for m (misses xs))
    missed))

-- what is so of the rules of all pairs that were tried is so of those of the misses
missed_each : (Q : PlainRule → Type 0) (m : Machine) (xs : List Try) → All Q (rules_for m (tried (steps_of xs)))
    → All Q (rules_for m (misses xs))
missed_each Q m [] a = All-nil Q
missed_each Q m (Used p r ∷ xs) a =
    missed_each Q m xs (All-tail Q (generalised m p) (rules_for m (tried (steps_of xs))) a)
missed_each Q m (Missed p ∷ xs) a = All-cons Q (generalised m p) (rules_for m (misses xs))
    (All-head Q (generalised m p) (rules_for m (tried (steps_of xs))) a)
    (missed_each Q m xs (All-tail Q (generalised m p) (rules_for m (tried (steps_of xs))) a))

-- where the misses are learned, all is that was tried
block_learns : (m : Machine) (rs new : List PlainRule) (s t : Scan) (xs : List Try) → AreCanonical m rs
    → GoesBy m rs s xs t → Learns m rs new (misses xs) → Learns m rs new (tried (steps_of xs))
block_learns m rs new s t xs canonical g learns = λ ps h.
    let P = rules_for m ps in
    let M = rules_for m (misses xs) in
    let T = rules_for m (tried (steps_of xs)) in
    let k : HasRules m (ps ++ misses xs) new = learns ps h in
    let each : All (Contains new) (P ++ M) = subst (All (Contains new)) (rules_append m ps (misses xs)) k.each in
    let only : All (Contains (P ++ M)) new =
    subst (λ (ys : List PlainRule). All (Contains ys) new) (rules_append m ps (misses xs)) k.only in
    let first : All (Contains new) P = All-weaker (Contains P) (Contains new)
    (λ x c. All-contains (Contains new) (P ++ M) x each (Contains-append_left P M x c)) P (All-contains_itself P) in
    let missed : All (Contains new) M = All-weaker (Contains M) (Contains new)
    (λ x c. All-contains (Contains new) (P ++ M) x each (Contains-append_right P M x c)) M (All-contains_itself M) in
    let kept : All (Contains new) rs = All-weaker (Contains P) (Contains new)
    (λ x c. All-contains (Contains new) P x first c) rs h.only in
    let inside : All (Contains (P ++ T)) (P ++ M) = All-append (Contains (P ++ T)) P M
    (All-weaker (Contains P) (Contains (P ++ T)) (λ x c. Contains-append_left P T x c) P (All-contains_itself P))
    (missed_each (Contains (P ++ T)) m xs (All-weaker (Contains T) (Contains (P ++ T))
    (λ x c. Contains-append_right P T x c) T (All-contains_itself T))) in
    let no_others : All (Contains (P ++ T)) new = All-weaker (Contains (P ++ M)) (Contains (P ++ T))
    (λ x c. All-contains (Contains (P ++ T)) (P ++ M) x inside c) new only in
    record {
      each = subst (All (Contains new)) (sym (rules_append m ps (tried (steps_of xs))))
          (All-append (Contains new) P T first (tried_listed m rs new s t xs canonical g kept missed));
      only = subst (λ (ys : List PlainRule). All (Contains ys) new) (sym (rules_append m ps (tried (steps_of xs))))
          no_others;
    }

misses_formed : (m : Machine) (rs : List PlainRule) (s t : Scan) (xs : List Try) → GoesBy m rs s xs t
    → All WellFormedPair (misses xs)
misses_formed m rs s t [] g = All-nil WellFormedPair
misses_formed m rs s t (Used p r ∷ xs) (u, x, g) = misses_formed m rs u t xs g
misses_formed m rs s t (Missed p ∷ xs) (u, x, g) =
    All-cons WellFormedPair p (misses xs) x.formed (misses_formed m rs u t xs g)

pub formed_misses : (m : Machine) (rs : List PlainRule) (s t : Scan) (n k : ℕ) (r : BlockReport)
    → IsBlockDone m rs s t n k r → All WellFormedPair (map pair_of r.misses.items)
formed_misses m rs s t n k r d =
    subst (All WellFormedPair) (sym d.told.misses) (misses_formed m rs s t d.tries d.goes)

-- a block was gone through, its misses were learned, and its end passed
block_passed : (m : Machine) (rs new : List PlainRule) (s u t : Scan) (n k : ℕ) (r : BlockReport) → AreCanonical m rs
    → IsBlockDone m rs s u n k r → AfterEnd u t → Learns m rs new (map pair_of r.misses.items)
    → HasPassed m s t rs new
block_passed m rs new s u t n k r canonical d after learns = record {
  tries = steps_of d.tries;
  goes = goes_append (combination m) s u t (steps_of d.tries) (Ended ∷ []) d.slowly (t, after, refl);
  learns = block_learns m rs new s u d.tries canonical d.goes (subst (Learns m rs new) d.told.misses learns);
}

-- the same where memory was there, on the machine as it is seen
pub block_passed_when : {T E : Type 0} (went : Result T E) (m n k : Machine) (rs new : List PlainRule) (s u t : Scan)
    (i j : ℕ) (r : BlockReport) → n ≡ m → k ≡ m → AreCanonical n rs → IsBlockDone n rs s u i j r
    → Learns k rs new (map pair_of r.misses.items) → OnOk went (AfterEnd u t) → OnOk went (HasPassed m s t rs new)
block_passed_when (Ok x) m n k rs new s u t i j r e f canonical d learns after =
    subst (λ (m : Machine). HasPassed m s t rs new) e (block_passed n rs new s u t i j r canonical d after
    (subst (λ (k : Machine). Learns k rs new (map pair_of r.misses.items)) (f ∙ sym e) learns))
block_passed_when (Err x) m n k rs new s u t i j r e f canonical d learns after = tt

-- A code

tried_append : (xs ys : List ScanStep) → tried (xs ++ ys) ≡ tried xs ++ tried ys
tried_append [] ys = refl
tried_append (Tried p ∷ xs) ys = ap (λ ps. p ∷ ps) (tried_append xs ys)
tried_append (Ended ∷ xs) ys = tried_append xs ys

-- the scan of a code went on to here, and the rules of all that it tried are learned
pub record IsPassing (m : Machine) (code : List PlainBlock) (s : Scan) (old new : List PlainRule) : Type 0 where
  pub steps : List ScanStep
  pub stands : StandsAfter (combination m) code steps s
  pub learns : Learns m old new (tried steps)

pub passing_begin : (m : Machine) (code : List PlainBlock) (s : Scan) (rs : List PlainRule) → IsPassStart code s
    → IsPassing m code s rs rs
passing_begin m code s rs start = record { steps = []; stands = (s, start, refl); learns = learns_none m rs }

pub passing_next : (m : Machine) (code : List PlainBlock) (s t : Scan) (a b c : List PlainRule)
    → IsPassing m code s a b → HasPassed m s t b c → IsPassing m code t a c
passing_next m code s t a b c o p =
    let more = p.tries ++ Ended ∷ [] in
    let told : tried (o.steps ++ more) ≡ tried o.steps ++ tried p.tries =
    tried_append o.steps more ∙ ap (λ ps. tried o.steps ++ ps) (tried_append p.tries (Ended ∷ [])
    ∙ append-nil (tried p.tries)) in
    record {
      steps = o.steps ++ more;
      stands = stands_append (combination m) code s t o.steps more o.stands p.goes;
      learns = subst (Learns m a c) (sym told)
          (learns_append m a b c (tried o.steps) (tried p.tries) o.learns p.learns);
    }

pub passing_end : (m : Machine) (code slowed : List PlainBlock) (s : Scan) (old new : List PlainRule)
    → IsPassing m code s old new → s ≡ Finished slowed → IsPassed m code slowed old new
passing_end m code slowed s old new o e = record {
  pairs = tried o.steps;
  makes = (o.steps, subst (StandsAfter (combination m) code o.steps) e o.stands, refl);
  learns = o.learns;
}

-- a block leaves less work
ended_less : (answer : Answers) (s t : Scan) (xs : List ScanStep) → Goes answer s (xs ++ Ended ∷ []) t
    → work t < work s
ended_less answer s t [] g = step_less answer s t Ended g
ended_less answer s t (Tried p ∷ xs) (e, g) =
    let u = after_try (answer p) s in
    let one : work u < work s = step_less answer s u (Tried p) (e, refl) in
    let others : work t < work u = ended_less answer u t xs g in
    omega arith
ended_less answer s t (Ended ∷ xs) (u, a, g) =
    let one : work u < work s = step_less answer s u Ended (u, a, refl) in
    let others : work t < work u = ended_less answer u t xs g in
    omega arith

pub passed_less : (m : Machine) (s t : Scan) (old new : List PlainRule) → HasPassed m s t old new → work t < work s
passed_less m s t old new p = ended_less (combination m) s t p.tries p.goes
