-- How tries follow each other.
use Rattle.std.proofs.Common.{◌≡◌, ℕ, ◌+◌, ◌<◌, Bool, true, false, List, [], ◌∷◌, ◌++◌, length, map, Option, Some}
use Rattle.std.proofs.Common.{refl, sym, ◌∙◌, ap, subst, arith, append_assoc}
use Rattle.std.specs.Prelude.{Result, Ok, Err, OnOk}
use Rattle.std.proofs.lemmas.List.{append-nil, length-append, length-map}
use Rattle.std.proofs.lemmas.List.Elements.{All-contains}
use Rattle.po_model.specs.declared.machine.Machine.{Machine}
use Rattle.po_model.specs.Canonical.{Canonical}
use Rattle.po_model.specs.Combined.{Answer, combination}
use Rattle.po_model.specs.Holed.{PlainRule}
use Rattle.po_model.specs.Learning.{Try, Used, Missed, pair_tried, outcome_of, GoesBy, hits, misses, steps_of}
use Rattle.po_model.specs.Lookups.{gives, AreCanonical, FitsRule, NoneFits}
use Rattle.po_model.specs.Machines.{IsMachine}
use Rattle.po_model.specs.Pairs.{PlainPair, pair_of, WellFormedPair}
use Rattle.po_model.specs.Scanned.{Scan, Within, Finished, Tried, pair_ready, after_try, Goes, IsAtEnd}
use Rattle.po_slow.specs.States.{IsAnswer, CanAnswer, IsFormedScan, IsFinished}
use Rattle.po_slow.proofs.Keeping.{can_answer}
use Rattle.po_slow.proofs.Steps.{goes_append}
use Rattle.po_slow.proofs.Work.{work, step_less}
use Rattle.po_fore.specs.declared.report.BlockReport.{BlockReport}
use Rattle.po_fore.specs.Reports.{hit_of, Gains, IsTryOn, IsBlockDone, HasGoneBy}

-- the outcome of slow combination may be given
pub can_try : (m : Machine) (s : Scan) (p : PlainPair) (o : Answer) → IsMachine m → IsFormedScan s
    → pair_ready s ≡ Some p → o ≡ combination m p → CanAnswer (pair_ready s) o
can_try m s p o machine f e a = can_answer m s o machine f (subst (λ r. IsAnswer m r o) (sym e) a)

-- a rule of the list is canonical
pub listed_canonical : (m : Machine) (rs : List PlainRule) (p : PlainPair) (r : PlainRule) → AreCanonical m rs
    → FitsRule rs p r → Canonical m r
listed_canonical m rs p r h f = All-contains (Canonical m) rs r h f.listed

-- three facts where a call went well
pub on_ok_and3 : {T E P Q R S : Type 0} (r : Result T E) → (P → Q → R → S) → OnOk r P → OnOk r Q → OnOk r R → OnOk r S
on_ok_and3 (Ok x) f p q r = f p q r
on_ok_and3 (Err e) f p q r = tt

-- the same outcome
pub by_same : {T E : Type 0} (r : Result T E) (s t : Scan) (o q : Answer) → o ≡ q → OnOk r (t ≡ after_try o s)
    → OnOk r (t ≡ after_try q s)
by_same (Ok x) s t o q e h = h ∙ ap (λ a. after_try a s) e
by_same (Err x) s t o q e h = tt

-- One try

pub gains_used : (m : Machine) (rs : List PlainRule) (s t : Scan) (r q : BlockReport) (n : ℕ) (p : PlainPair)
    (x : PlainRule) → pair_ready s ≡ Some p → WellFormedPair p → FitsRule rs p x → t ≡ after_try (gives x p) s
    → t ≡ after_try (combination m p) s
    → map hit_of q.used.items ≡ map hit_of r.used.items ++ record { pair = p; rule = x } ∷ []
    → map pair_of q.misses.items ≡ map pair_of r.misses.items
    → Gains m rs s t r q n n (Used p x ∷ [])
gains_used m rs s t r q n p x ready formed fits by slowly used missed = record {
  goes = (t, record { ready = ready; formed = formed; looked = fits; goes_on = by }, refl);
  slowly = (ready, slowly);
  used = used;
  missed = missed ∙ sym (append-nil (map pair_of r.misses.items));
  ticks = omega arith;
}

pub gains_missed : (m : Machine) (rs : List PlainRule) (s t : Scan) (r q : BlockReport) (n k : ℕ) (p : PlainPair)
    → pair_ready s ≡ Some p → WellFormedPair p → NoneFits rs p → t ≡ after_try (combination m p) s
    → map hit_of q.used.items ≡ map hit_of r.used.items
    → map pair_of q.misses.items ≡ map pair_of r.misses.items ++ p ∷ [] → k ≡ n + 1
    → Gains m rs s t r q n k (Missed p ∷ [])
gains_missed m rs s t r q n k p ready formed none by used missed ticks = record {
  goes = (t, record { ready = ready; formed = formed; looked = none; goes_on = by }, refl);
  slowly = (ready, by);
  used = used ∙ sym (append-nil (map hit_of r.used.items));
  missed = missed;
  ticks = ticks;
}

-- Tries and further tries

pub goes_by_append : (m : Machine) (rs : List PlainRule) (s t u : Scan) (xs ys : List Try) → GoesBy m rs s xs t
    → GoesBy m rs t ys u → GoesBy m rs s (xs ++ ys) u
goes_by_append m rs s t u [] ys g h = subst (λ v. GoesBy m rs v ys u) g h
goes_by_append m rs s t u (x ∷ xs) ys (v, a, g) h = (v, a, goes_by_append m rs v t u xs ys g h)

pub steps_append : (xs ys : List Try) → steps_of (xs ++ ys) ≡ steps_of xs ++ steps_of ys
steps_append [] ys = refl
steps_append (x ∷ xs) ys = ap (λ zs. Tried (pair_tried x) ∷ zs) (steps_append xs ys)

pub hits_append : (xs ys : List Try) → hits (xs ++ ys) ≡ hits xs ++ hits ys
hits_append [] ys = refl
hits_append (Used p r ∷ xs) ys = ap (λ zs. record { pair = p; rule = r } ∷ zs) (hits_append xs ys)
hits_append (Missed p ∷ xs) ys = hits_append xs ys

pub misses_append : (xs ys : List Try) → misses (xs ++ ys) ≡ misses xs ++ misses ys
misses_append [] ys = refl
misses_append (Used p r ∷ xs) ys = misses_append xs ys
misses_append (Missed p ∷ xs) ys = ap (λ zs. p ∷ zs) (misses_append xs ys)

pub gains_append : (m : Machine) (rs : List PlainRule) (s t u : Scan) (r q o : BlockReport) (n k l : ℕ)
    (xs ys : List Try) → Gains m rs s t r q n k xs → Gains m rs t u q o k l ys → Gains m rs s u r o n l (xs ++ ys)
gains_append m rs s t u r q o n k l xs ys g h = record {
  goes = goes_by_append m rs s t u xs ys g.goes h.goes;
  slowly = subst (λ zs. Goes (combination m) s zs u) (sym (steps_append xs ys))
      (goes_append (combination m) s t u (steps_of xs) (steps_of ys) g.slowly h.slowly);
  used = h.used ∙ ap (λ zs. zs ++ hits ys) g.used ∙ append_assoc (map hit_of r.used.items) (hits xs) (hits ys)
      ∙ ap (λ zs. map hit_of r.used.items ++ zs) (sym (hits_append xs ys));
  missed = h.missed ∙ ap (λ zs. zs ++ misses ys) g.missed
      ∙ append_assoc (map pair_of r.misses.items) (misses xs) (misses ys)
      ∙ ap (λ zs. map pair_of r.misses.items ++ zs) (sym (misses_append xs ys));
  ticks = omega (arith, g.ticks, h.ticks, ap length (misses_append xs ys), length-append (misses xs) (misses ys));
}

-- nothing was tried yet
pub gains_none : (m : Machine) (rs : List PlainRule) (s : Scan) (r : BlockReport) (n : ℕ) → Gains m rs s s r r n n []
gains_none m rs s r n = record {
  goes = refl;
  slowly = refl;
  used = sym (append-nil (map hit_of r.used.items));
  missed = sym (append-nil (map pair_of r.misses.items));
  ticks = omega arith;
}

-- a scan that is tried goes on within its block
going_on : (o : Answer) (s : Scan) → (IsFinished s → ⊥) → IsFinished (after_try o s) → ⊥
going_on o (Within s) h f = f
going_on o (Finished code) h f = h f

pub still_going : (m : Machine) (rs : List PlainRule) (s t : Scan) (xs : List Try) → GoesBy m rs s xs t
    → (IsFinished s → ⊥) → IsFinished t → ⊥
still_going m rs s t [] g h = subst (λ u. IsFinished u → ⊥) (sym g) h
still_going m rs s t (x ∷ xs) (u, a, g) h =
    still_going m rs u t xs g (subst (λ u. IsFinished u → ⊥) (sym a.goes_on) (going_on (outcome_of m x) s h))

-- how many tries there were
counted : (xs : List Try) → length xs ≡ length (hits xs) + length (misses xs)
counted [] = refl
counted (Used p r ∷ xs) = omega (arith, counted xs)
counted (Missed p ∷ xs) = omega (arith, counted xs)

-- all tries of a block, told from nothing on
pub block_done : (m : Machine) (rs : List PlainRule) (s t : Scan) (r q o : BlockReport) (n k : ℕ) (xs : List Try)
    → Gains m rs s t r q n k xs → IsAtEnd t → r.used.items ≡ [] → r.misses.items ≡ [] → o.used.items ≡ q.used.items
    → o.misses.items ≡ q.misses.items → o.tried ≡ length q.used.items + length q.misses.items
    → IsBlockDone m rs s t n k o
block_done m rs s t r q o n k xs g e ru rm ou om tried =
    let used : map hit_of q.used.items ≡ hits xs = g.used ∙ ap (λ ys. map hit_of ys ++ hits xs) ru in
    let missed : map pair_of q.misses.items ≡ misses xs = g.missed ∙ ap (λ ys. map pair_of ys ++ misses xs) rm in
    record {
      tries = xs;
      goes = g.goes;
      slowly = g.slowly;
      at_end = e;
      told = record {
        used = ap (map hit_of) ou ∙ used;
        misses = ap (map pair_of) om ∙ missed;
        tried = omega (
          arith,
          tried,
          counted xs,
          ap length used,
          ap length missed,
          length-map q.used.items hit_of,
          length-map q.misses.items pair_of,
        );
      };
      ticks = g.ticks;
    }

-- each try leaves less work
pub try_less : (m : Machine) (rs : List PlainRule) (s t : Scan) (r q : BlockReport) (n k : ℕ) (x : Try)
    → Gains m rs s t r q n k (x ∷ []) → work t < work s
try_less m rs s t r q n k x g = step_less (combination m) s t (Tried (pair_tried x)) g.slowly

pub one_try : (m : Machine) (rs : List PlainRule) (s t : Scan) (r q : BlockReport) (n k : ℕ) (more : Bool)
    → IsTryOn m rs s t r q n k more → more ≡ true → (x : Try) × Gains m rs s t r q n k (x ∷ [])
one_try m rs s t r q n k more h e = subst (IsTryOn m rs s t r q n k) e h

pub no_try : (m : Machine) (rs : List PlainRule) (s t : Scan) (r q : BlockReport) (n k : ℕ) (more : Bool)
    → IsTryOn m rs s t r q n k more → more ≡ false → IsAtEnd s × Gains m rs s t r q n k []
no_try m rs s t r q n k more h e = subst (IsTryOn m rs s t r q n k) e h

pub gone_by : (m : Machine) (rs : List PlainRule) (s t : Scan) (r q : BlockReport) (n k : ℕ) (xs : List Try)
    → Gains m rs s t r q n k xs → HasGoneBy m rs s t
gone_by m rs s t r q n k xs g = (xs, g.goes, g.slowly)

pub at_end_after : (m : Machine) (rs : List PlainRule) (s t : Scan) (r q : BlockReport) (n k : ℕ)
    → Gains m rs s t r q n k [] → IsAtEnd s → IsAtEnd t
at_end_after m rs s t r q n k g e = subst IsAtEnd (sym g.goes) e
