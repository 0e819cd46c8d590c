-- What a try is, from what its parts did.
use Rattle.std.proofs.Common.{◌≡◌, ℕ, zero, suc, Bool, true, false, List, [], ◌∷◌, map, take, All, slice_get, Some}
use Rattle.std.proofs.Common.{refl, sym, ◌∙◌, ap, subst}
use Rattle.std.specs.Prelude.{Result, Ok, Err}
use Rattle.std.proofs.lemmas.List.Elements.{All-head, All-tail, All-contains}
use Rattle.po_word.specs.declared.memory.OutOfMemory.{OutOfMemory}
use Rattle.po_model.specs.declared.machine.Machine.{Machine}
use Rattle.po_model.specs.Machines.{IsMachine}
use Rattle.po_model.specs.Pairs.{PlainPair}
use Rattle.po_model.specs.Combined.{Answer, combination}
use Rattle.po_model.specs.Scanned.{Scan, pair_ready, after_try}
use Rattle.po_model.specs.Holed.{PlainRule}
use Rattle.po_model.specs.Agrees.{Instance}
use Rattle.po_model.specs.Lookups.{gives, FitsRule, NoneFits}
use Rattle.po_model.specs.Learning.{Used, Missed}
use Rattle.po_slow.specs.declared.state.ScanState.{ScanState}
use Rattle.po_slow.specs.States.{scan_of, IsAnswer, IsFormedScan, IsFormedState}
use Rattle.po_slow.proofs.Keeping.{can_answer}
use Rattle.po_core.specs.Fores.{PlainFore, HasNext, CanTry, HasTried}
use Rattle.po_core.specs.Scans.{IsReadyAt, CanAnswerAt, GoesOn}
use Rattle.po_core.specs.Went.{Went, Did}
use Rattle.po_core.proofs.Lists.{some_same}

pub scan_formed : (xs : List ScanState) (i : ℕ) (s : Scan) → All IsFormedState xs
    → slice_get (map scan_of xs) i ≡ Some s → IsFormedScan s
scan_formed [] zero s a g = absurd (cc)
scan_formed [] (suc i) s a g = absurd (cc)
scan_formed (x ∷ xs) zero s a g = subst IsFormedScan (some_same g) (All-head IsFormedState x xs a).formed
scan_formed (x ∷ xs) (suc i) s a g = scan_formed xs i s (All-tail IsFormedState x xs a) g

-- the answer of slow combination may be given there
pub can_answer_at : (m : Machine) (xs ys : List ScanState) (i : ℕ) (p : PlainPair) (o : Answer) → ys ≡ xs → IsMachine m
    → All IsFormedState xs → IsReadyAt (map scan_of xs) i p → o ≡ combination m p → CanAnswerAt (map scan_of ys) i o
can_answer_at m xs ys i p o same machine formed r e s g =
    let h : slice_get (map scan_of xs) i ≡ Some s = subst (λ zs. slice_get (map scan_of zs) i ≡ Some s) same g in
    let ready : pair_ready s ≡ Some p = ap pair_ready (some_same (sym h ∙ r.present)) ∙ r.ready in
    can_answer m s o machine (scan_formed xs i s formed h) (subst (λ q. IsAnswer m q o) (sym ready) e)

fits_not_none : (rs : List PlainRule) (p : PlainPair) (r : PlainRule) → FitsRule rs p r → NoneFits rs p → ⊥
fits_not_none rs p r f n = All-contains (λ s. Instance s p → ⊥) rs r n f.listed f.instance

same_pair : (rs : List PlainRule) (f : PlainFore) (p : PlainPair) → IsReadyAt f.scans f.at p → (can : CanTry rs f)
    → can.pair ≡ p
same_pair rs f p r can = some_same (sym can.ready ∙ (ap pair_ready (some_same (sym can.present ∙ r.present))
    ∙ r.ready))

module _ (m : Machine) (rs : List PlainRule) (f g : PlainFore) (n : ℕ) (p : PlainPair) (shown : f.shown ≡ Some n)
    (r : IsReadyAt f.scans f.at p) (next : HasNext f.tries) (S : Type 0) where
  did_hit : (b : Bool) (x : PlainRule) → FitsRule (take n rs) p x
      → Did b (HasNext f.hits) (GoesOn (Used p x) (gives x p) f g) S
      → Did b (CanTry rs f) (HasTried m rs f g) S
  did_hit true x fits (h, goes) = (
    record {
      shown = n;
      snapshot = shown;
      scan = r.scan;
      present = r.present;
      pair = p;
      ready = r.ready;
      tries = next;
      hits = λ q e. h;
      misses = λ none. absurd (fits_not_none (take n rs) p x fits none);
    },
    record {
      shown = n;
      snapshot = shown;
      scan = r.scan;
      present = r.present;
      try = Used p x;
      after = after_try (gives x p) r.scan;
      tried = record { ready = r.ready; formed = r.formed; looked = fits; goes_on = refl };
      is = goes r.scan r.present;
    },
  )
  did_hit false x fits (refused, s) = (
    λ can.
        let here = subst (λ q. FitsRule (take n rs) q x) (sym (same_pair rs f p r can)) fits in
        refused (can.hits x (subst (λ k. FitsRule (take k rs) can.pair x) (some_same (sym shown ∙ can.snapshot))
        here)),
    s,
  )

  did_miss : (b : Bool) → NoneFits (take n rs) p → Did b (HasNext f.misses) (GoesOn (Missed p) (combination m p) f g) S
      → Did b (CanTry rs f) (HasTried m rs f g) S
  did_miss true none (h, goes) = (
    record {
      shown = n;
      snapshot = shown;
      scan = r.scan;
      present = r.present;
      pair = p;
      ready = r.ready;
      tries = next;
      hits = λ q e. absurd (fits_not_none (take n rs) p q e none);
      misses = λ e. h;
    },
    record {
      shown = n;
      snapshot = shown;
      scan = r.scan;
      present = r.present;
      try = Missed p;
      after = after_try (combination m p) r.scan;
      tried = record { ready = r.ready; formed = r.formed; looked = none; goes_on = refl };
      is = goes r.scan r.present;
    },
  )
  did_miss false none (refused, s) = (
    λ can.
        let here = subst (λ q. NoneFits (take n rs) q) (sym (same_pair rs f p r can)) none in
        refused (can.misses (subst (λ k. NoneFits (take k rs) can.pair) (some_same (sym shown ∙ can.snapshot)) here)),
    s,
  )

  pub went_hit : (w : Result Bool OutOfMemory) (x : PlainRule) → FitsRule (take n rs) p x
      → Went w (HasNext f.hits) (GoesOn (Used p x) (gives x p) f g) S → Went w (CanTry rs f) (HasTried m rs f g) S
  went_hit (Ok b) x fits w = did_hit b x fits w
  went_hit (Err e) x fits s = s

  pub went_miss : (w : Result Bool OutOfMemory) → NoneFits (take n rs) p
      → Went w (HasNext f.misses) (GoesOn (Missed p) (combination m p) f g) S
      → Went w (CanTry rs f) (HasTried m rs f g) S
  went_miss (Ok b) none w = did_miss b none w
  went_miss (Err e) none s = s
