-- The steps that the scan of a code has made, one after the other.
use Rattle.std.proofs.Common.{◌≡◌, ℕ, ◌+◌, Bool, true, List, [], ◌∷◌, ◌++◌, length, Option, Some, None, refl, ◌∙◌, ap}
use Rattle.std.proofs.Common.{subst, arith}
use Rattle.po_model.specs.declared.machine.Machine.{Machine}
use Rattle.po_model.specs.Blocks.{PlainBlock}
use Rattle.po_model.specs.Pairs.{PlainPair}
use Rattle.po_model.specs.Combined.{combination}
use Rattle.po_model.specs.Scanned.{Scan, ScanStep, Tried, Ended, pair_ready, after_try, Answers, Goes, StandsAfter}
use Rattle.po_model.specs.Scanned.{tried, ends}
use Rattle.po_slow.specs.States.{IsAnswer, IsTried}
use Rattle.po_slow.specs.Steps.{IsOneStep, IsStepOn, HasGone}

-- a pair was tried
pub one_tried : (m : Machine) (s t : Scan) (n k : ℕ) → IsTried m s t → k ≡ n + 1 → IsStepOn m s t n k true
one_tried m s t n k h count = go (pair_ready s) refl h.is_answer
  where
    go : (r : Option PlainPair) → pair_ready s ≡ r → IsAnswer m r h.outcome → IsOneStep m s t n k
    go None e a = absurd a
    go (Some p) e a = record { step = Tried p; goes = (e, h.goes_on ∙ ap (λ o. after_try o s) a); counted = count }

-- steps and further steps
pub goes_append : (answer : Answers) (s t u : Scan) (xs ys : List ScanStep) → Goes answer s xs t → Goes answer t ys u
    → Goes answer s (xs ++ ys) u
goes_append answer s t u [] ys g h = subst (λ v. Goes answer v ys u) g h
goes_append answer s t u (Tried p ∷ xs) ys (e, g) h = (e, goes_append answer (after_try (answer p) s) t u xs ys g h)
goes_append answer s t u (Ended ∷ xs) ys (v, a, g) h = (v, a, goes_append answer v t u xs ys g h)

pub stands_append : (answer : Answers) (code : List PlainBlock) (s t : Scan) (xs ys : List ScanStep)
    → StandsAfter answer code xs s → Goes answer s ys t → StandsAfter answer code (xs ++ ys) t
stands_append answer code s t xs ys (start, is, g) h = (start, is, goes_append answer start s t xs ys g h)

pub tried_append : (xs ys : List ScanStep) → length (tried (xs ++ ys)) ≡ length (tried xs) + length (tried ys)
tried_append [] ys = omega arith
tried_append (Tried p ∷ xs) ys = omega (arith, tried_append xs ys)
tried_append (Ended ∷ xs) ys = tried_append xs ys

pub ends_append : (xs ys : List ScanStep) → ends (xs ++ ys) ≡ ends xs + ends ys
ends_append [] ys = omega arith
ends_append (Tried p ∷ xs) ys = ends_append xs ys
ends_append (Ended ∷ xs) ys = omega (arith, ends_append xs ys)

pub one_step : (m : Machine) (s t : Scan) (n k : ℕ) (more : Bool) → IsStepOn m s t n k more → more ≡ true
    → IsOneStep m s t n k
one_step m s t n k more h e = subst (IsStepOn m s t n k) e h

-- one step more
pub gone_more : (m : Machine) (code : List PlainBlock) (s t : Scan) (n k l : ℕ) → HasGone m code s n k
    → IsOneStep m s t k l → HasGone m code t n l
gone_more m code s t n k l g h = record {
  steps = g.steps ++ h.step ∷ [];
  stands = stands_append (combination m) code s t g.steps (h.step ∷ []) g.stands h.goes;
  counted = omega (arith, g.counted, h.counted, tried_append g.steps (h.step ∷ []));
}
