-- What the end of a block is, from what its parts did, and which code is next.
use Rattle.std.proofs.Common.{◌≡◌, ℕ, ◌+◌, ◌<◌, ◌≤◌, false, List, [], ◌∷◌, map, All, length, get_or, set, slice_get}
use Rattle.std.proofs.Common.{Option, Some, None, refl, sym, ◌∙◌, ap, subst, arith}
use Rattle.std.specs.Prelude.{is_some, MatchOption}
use mathlib.Core.Logic.{inl, inr}
use Rattle.std.proofs.lemmas.List.{length-map}
use Rattle.std.proofs.lemmas.Option.{slice_get_within}
use Rattle.po_term.specs.Moves.{PlainInstr}
use Rattle.po_model.specs.Scanned.{Ahead, Scan, Within, Finished, ready, pair_ready, IsAtEnd}
use Rattle.po_slow.specs.declared.state.ScanState.{ScanState}
use Rattle.po_slow.specs.States.{scan_of, IsFinished, IsFormedScan, IsFormedState}
use Rattle.po_slow.proofs.Keeping.{less_or_not}
use Rattle.po_slow.proofs.Places.{ready_nil}
use Rattle.po_core.specs.Fores.{PlainFore, IsNext, HasEnded}
use Rattle.po_core.specs.Scans.{NoneReadyAt, IsAtEndAt, IsEndedAt, IsGoingAt, GoesToNext}
use Rattle.po_core.proofs.Lists.{some_same, get_at, get_set}
use Rattle.po_core.proofs.Trying.{scan_formed}

-- The end of a block

pub none_ready : {A : Type 0} (o : Option A) (P : Type 0) (Q : A → Type 0) → is_some o ≡ false → MatchOption o P Q → P
none_ready None P Q e h = h
none_ready (Some x) P Q e h = absurd (cc)

-- at the end of a block no pair is ready, nor at the finish
none_at_end : (s : Scan) → IsAtEnd s → pair_ready s ≡ None
none_at_end (Within x) e = ap (ready x.stand.done) e ∙ ready_nil x.stand.done
none_at_end (Finished code) e = absurd e

none_at_finish : (s : Scan) → IsFinished s → pair_ready s ≡ None
none_at_finish (Within x) f = absurd f
none_at_finish (Finished code) f = refl

module _ (xs : List ScanState) (i : ℕ) (d : ScanState) (h : i < length xs) where
  here_is : (s : Scan) → slice_get (map scan_of xs) i ≡ Some s → scan_of (get_or xs i d) ≡ s
  here_is s g = some_same (sym (get_at scan_of xs i d h) ∙ g)

  pub none_ready_end : IsAtEnd (scan_of (get_or xs i d)) → NoneReadyAt (map scan_of xs) i
  none_ready_end e = λ s g. subst (λ u. pair_ready u ≡ None) (here_is s g) (none_at_end (scan_of (get_or xs i d)) e)

  pub none_ready_finish : IsFinished (scan_of (get_or xs i d)) → NoneReadyAt (map scan_of xs) i
  none_ready_finish f = λ s g. subst (λ u. pair_ready u ≡ None) (here_is s g)
      (none_at_finish (scan_of (get_or xs i d)) f)

-- where no pair is ready, a scan that goes on is at the end of a block
at_end : (s : Scan) → IsFormedScan s → (IsFinished s → ⊥) → pair_ready s ≡ None → IsAtEnd s
at_end (Within x) formed going e = go x.stand.done x.stand.rest e formed.onward
  where
    go : (done : List PlainInstr) (rest : List Ahead) → ready done rest ≡ None → (done ≡ [] → rest ≡ []) → rest ≡ []
    go [] rest e o = o refl
    go (d ∷ ds) [] e o = refl
    go (d ∷ ds) (x ∷ xs) e o = absurd (cc)
at_end (Finished code) formed going e = absurd (going tt)

pub at_end_at : (xs ys : List ScanState) (i : ℕ) → ys ≡ xs → All IsFormedState xs → IsGoingAt (map scan_of xs) i
    → NoneReadyAt (map scan_of xs) i → IsAtEndAt (map scan_of ys) i
at_end_at xs ys i e formed going none = λ s g.
    let h : slice_get (map scan_of xs) i ≡ Some s = subst (λ zs. slice_get (map scan_of zs) i ≡ Some s) e g in
    at_end s (scan_formed xs i s formed h) (going s h) (none s h)

pub has_ended : (f g : PlainFore) (ss us : List Scan) (s : Scan) → us ≡ ss → IsEndedAt f.scans f.at ss
    → GoesToNext (record f { scans = us }) g → slice_get f.scans f.at ≡ Some s → HasEnded f g
has_ended f g ss us s e ended next present =
    let h = ended s present in
    let scans : us ≡ set f.scans f.at h.0 = e ∙ h.2 in
    let here : slice_get us f.at ≡ Some h.0
    = subst (λ xs. slice_get xs f.at ≡ Some h.0) (sym scans) (get_set f.scans f.at s h.0 present) in
    let o = next.onward h.0 here in
    let gs : g.scans ≡ us = ap (λ x. x.scans) next.rest in
    record {
      scan = s;
      present = present;
      after = h.0;
      ended = h.1;
      scans = gs ∙ scans;
      onward = record { going = o.going; finished = o.finished };
      rest = next.rest ∙ ap (λ xs. record f { scans = xs; at = g.at; tries = g.tries; ends = g.ends; shown = None })
          (sym gs);
    }

-- The next code that isn't finished

abbrev pub Passed : List ScanState → ℕ → ℕ → Type 0
Passed xs n k = (i : ℕ) (s : Scan) → n ≤ i → i < k → slice_get (map scan_of xs) i ≡ Some s → IsFinished s

module _ (xs : List ScanState) (n k : ℕ) (x : ScanState) (h : k < length xs) (e : x ≡ get_or xs k x) where
  here : slice_get (map scan_of xs) k ≡ Some (scan_of x)
  here = get_at scan_of xs k x h ∙ ap (λ y. Some (scan_of y)) (sym e)

  pub passed_more : IsFinished (scan_of x) → Passed xs n k → Passed xs n (k + 1)
  passed_more f p = λ i s a b g. elim (less_or_not i k) [ inl l ↦ p i s a l g | inr l ↦ at i s b l g ]
    where
      at : (i : ℕ) (s : Scan) → i < k + 1 → k ≤ i → slice_get (map scan_of xs) i ≡ Some s → IsFinished s
      at i s b l g =
          let same : k ≡ i = omega arith in
          subst IsFinished (some_same (sym here ∙ subst (λ j. slice_get (map scan_of xs) j ≡ Some s) (sym same) g)) f

  pub next_here : n ≤ k → (IsFinished (scan_of x) → ⊥) → Passed xs n k → IsNext (map scan_of xs) n k
  next_here o f p = record {
    order = o;
    within = omega (arith, length-map xs scan_of);
    passed = p;
    here = λ s g i. f (subst IsFinished (some_same (sym g ∙ here)) i);
  }

pub next_end : (xs : List ScanState) (n k : ℕ) → n ≤ k → k ≤ length xs → length xs ≤ k → Passed xs n k
    → IsNext (map scan_of xs) n k
next_end xs n k o w h p = record {
  order = o;
  within = omega (arith, length-map xs scan_of);
  passed = p;
  here = λ s g i. absurd (omega (arith, slice_get_within (map scan_of xs) k s g, length-map xs scan_of));
}
