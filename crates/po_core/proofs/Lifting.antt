-- From one foreground to all of them, and from one scan to all scans of a foreground.
use Rattle.std.proofs.Common.{◌≡◌, ℕ, zero, suc, ◌<◌, Bool, true, false, List, [], ◌∷◌, map, length, All, get_or, set}
use Rattle.std.proofs.Common.{slice_get, Option, Some, None, refl, sym, ◌∙◌, ap, subst, arith}
use Rattle.std.specs.Prelude.{⊤, Result, Ok, Err, OnOk, OnErr, MatchOption}
use Rattle.std.proofs.lemmas.List.{map-set, set-get_or}
use Rattle.std.proofs.lemmas.List.Elements.{All-set, All-get_or}
use Rattle.po_word.specs.declared.memory.OutOfMemory.{OutOfMemory}
use Rattle.po_model.specs.Combined.{Answer}
use Rattle.po_model.specs.Scanned.{Scan, after_try, AfterEnd}
use Rattle.po_slow.specs.declared.state.ScanState.{ScanState}
use Rattle.po_slow.specs.States.{scan_of}
use Rattle.po_core.specs.declared.fore.Fore.{Fore}
use Rattle.po_core.specs.Fores.{PlainFore, AtFore, SetFore}
use Rattle.po_core.specs.Scans.{IsSteppedAt, IsEndedAt}
use Rattle.po_core.specs.Views.{fore_of}
use Rattle.po_core.specs.Went.{Went, Did}
use Rattle.po_core.proofs.Lists.{some_same, get_at, all_plain}

-- The i-th foreground

module _ (xs : List Fore) (i : ℕ) (d y : Fore) (h : i < length xs) where
  all_same : fore_of y ≡ fore_of (get_or xs i d) → map fore_of (set xs i y) ≡ map fore_of xs
  all_same s = map-set fore_of xs i y
      ∙ (ap (set (map fore_of xs) i) s ∙ (sym (map-set fore_of xs i (get_or xs i d))
      ∙ ap (map fore_of) (set-get_or xs i d)))

  not_at : (P : PlainFore → Type 0) → (P (fore_of (get_or xs i d)) → ⊥) → AtFore (map fore_of xs) i P → ⊥
  not_at P n (f, g, p) = n (subst P (some_same (sym g ∙ get_at fore_of xs i d h)) p)

  module _ (P : PlainFore → Type 0) where
    pub lift_did : (b : Bool) (E : PlainFore → PlainFore → Type 0)
        → Did b (P (fore_of (get_or xs i d))) (E (fore_of (get_or xs i d)) (fore_of y))
        (fore_of y ≡ fore_of (get_or xs i d))
        → Did b (AtFore (map fore_of xs) i P) (SetFore (map fore_of xs) i E (map fore_of (set xs i y)))
        (map fore_of (set xs i y) ≡ map fore_of xs)
    lift_did true E (p, q) = (
      (fore_of (get_or xs i d), get_at fore_of xs i d h, p),
      (fore_of (get_or xs i d), fore_of y, get_at fore_of xs i d h, q, map-set fore_of xs i y),
    )
    lift_did false E (n, s) = (not_at P n, all_same s)

    pub lift_went : (r : Result Bool OutOfMemory) (E : PlainFore → PlainFore → Type 0)
        → Went r (P (fore_of (get_or xs i d))) (E (fore_of (get_or xs i d)) (fore_of y))
        (fore_of y ≡ fore_of (get_or xs i d))
        → Went r (AtFore (map fore_of xs) i P) (SetFore (map fore_of xs) i E (map fore_of (set xs i y)))
        (map fore_of (set xs i y) ≡ map fore_of xs)
    lift_went (Ok b) E w = lift_did b E w
    lift_went (Err e) E s = all_same s

    pub lift_some : {A : Type 0} (o : Option A) (E : A → PlainFore → PlainFore → Type 0)
        → MatchOption o ((P (fore_of (get_or xs i d)) → ⊥) × (fore_of y ≡ fore_of (get_or xs i d)))
        (λ a. P (fore_of (get_or xs i d)) × E a (fore_of (get_or xs i d)) (fore_of y))
        → MatchOption o ((AtFore (map fore_of xs) i P → ⊥) × (map fore_of (set xs i y) ≡ map fore_of xs))
        (λ a. AtFore (map fore_of xs) i P × SetFore (map fore_of xs) i (E a) (map fore_of (set xs i y)))
    lift_some None E (n, s) = (not_at P n, all_same s)
    lift_some (Some a) E (p, q) = (
      (fore_of (get_or xs i d), get_at fore_of xs i d h, p),
      (fore_of (get_or xs i d), fore_of y, get_at fore_of xs i d h, q, map-set fore_of xs i y),
    )

  pub lift_all : (G : Fore → Type 0) → (G (get_or xs i d) → G y) → All G xs → All G (set xs i y)
  lift_all G k a = All-set G xs i y (k (All-get_or G xs i d h a)) a

  -- what is known of the plain foregrounds is known of the i-th
  pub of_plain : (G : PlainFore → Type 0) → All G (map fore_of xs) → G (fore_of (get_or xs i d))
  of_plain G a = All-get_or (λ f. G (fore_of f)) xs i d h (all_plain fore_of G xs a)

-- The i-th scan

pub scan_at : (xs : List ScanState) (i : ℕ) (d : ScanState) (s : Scan) → i < length xs
    → slice_get (map scan_of xs) i ≡ Some s
    → scan_of (get_or xs i d) ≡ s
scan_at xs i d s h g = some_same (sym (get_at scan_of xs i d h) ∙ g)

pub stepped_at : {E : Type 0} (r : Result ⊤ E) (xs : List ScanState) (i : ℕ) (d y : ScanState) (o : Answer)
    → i < length xs
    → OnOk r (scan_of y ≡ after_try o (scan_of (get_or xs i d)))
    → OnOk r (IsSteppedAt (map scan_of xs) i o (map scan_of (set xs i y)))
stepped_at (Ok x) xs i d y o h e =
    λ s g. map-set scan_of xs i y ∙ ap (set (map scan_of xs) i) (e ∙ ap (after_try o) (scan_at xs i d s h g))
stepped_at (Err x) xs i d y o h e = tt

pub unchanged_at : {E : Type 0} (r : Result ⊤ E) (xs : List ScanState) (i : ℕ) (d y : ScanState)
    → OnErr r (scan_of y ≡ scan_of (get_or xs i d)) → OnErr r (map scan_of (set xs i y) ≡ map scan_of xs)
unchanged_at (Ok x) xs i d y e = tt
unchanged_at (Err x) xs i d y e = map-set scan_of xs i y
    ∙ (ap (set (map scan_of xs) i) e ∙ (sym (map-set scan_of xs i (get_or xs i d))
    ∙ ap (map scan_of) (set-get_or xs i d)))

pub ended_at : {E : Type 0} (r : Result ⊤ E) (xs : List ScanState) (i : ℕ) (d y : ScanState) → i < length xs
    → OnOk r (AfterEnd (scan_of (get_or xs i d)) (scan_of y))
    → OnOk r (IsEndedAt (map scan_of xs) i (map scan_of (set xs i y)))
ended_at (Ok x) xs i d y h e =
    λ s g. (scan_of y, subst (λ u. AfterEnd u (scan_of y)) (scan_at xs i d s h g) e, map-set scan_of xs i y)
ended_at (Err x) xs i d y h e = tt

pub present : (xs : List ScanState) (i : ℕ) → i < length xs → (s : Scan) × (slice_get (map scan_of xs) i ≡ Some s)
present [] i h = absurd (omega arith)
present (x ∷ xs) zero h = (scan_of x, refl)
present (x ∷ xs) (suc i) h = present xs i (omega arith)
