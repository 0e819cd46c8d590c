-- Sums over the ranges of a list that the workers gave, each its own.
use Rattle.std.proofs.Common.{◌≡◌, ℕ, suc, ◌+◌, ◌-◌, ◌*◌, ◌/◌, ◌<◌, ◌≤◌, List, [], ◌∷◌, length, drop}
use Rattle.std.proofs.Common.{slice_range, ap, sym, ◌∙◌, subst, arith, refl}
use Rattle.std.specs.List.{sum_by}
use Rattle.std.proofs.lemmas.List.{drop-drop, drop_all}
use Rattle.std.proofs.lemmas.List.Sums.{sum_by-take-drop}
use Rattle.std.proofs.Math.Nat.{div-mul-le_self, mul-le-mul_right, le_trans}
use Rattle.std.proofs.lemmas.Nat.{le-div}
use Rattle.po_pool.specs.Worked.{EachAt, first_unit}

module _ (units workers : ℕ) (some : 0 < workers) where
  first_grows : (p : ℕ) → first_unit units workers p ≤ first_unit units workers (p + 1)
  first_grows p =
      let le : p ≤ p + 1 = omega arith in
      le-div (p * units / workers) ((p + 1) * units) workers some
      (le_trans (div-mul-le_self (p * units) workers) (mul-le-mul_right units le))

  module _ {O : Type 0} (outs : List O) where
    -- what the worker at this place gave, and what the workers from it on did
    abbrev pub given : ℕ → List O
    given p = slice_range outs (first_unit units workers p) (first_unit units workers (p + 1))

    abbrev pub given_from : ℕ → List O
    given_from p = drop (first_unit units workers p) outs

    next_from : (p : ℕ) →
        drop (first_unit units workers (p + 1) - first_unit units workers p) (given_from p) ≡ given_from (p + 1)
    next_from p =
        let a = first_unit units workers p in
        let b = first_unit units workers (p + 1) in
        let grows : a ≤ b = first_grows p in
        let same : a + (b - a) ≡ b = omega (arith, grows) in
        drop-drop (b - a) a outs ∙ ap (λ n. drop n outs) same

    -- a sum over what the workers from a place on gave is the first one's and that of the others
    pub splits : (g : O → ℕ) (p : ℕ) → sum_by g (given p) + sum_by g (given_from (p + 1)) ≡ sum_by g (given_from p)
    splits g p =
        ap (λ xs. sum_by g (given p) + sum_by g xs) (sym (next_from p))
        ∙ sum_by-take-drop g (given_from p) (first_unit units workers (p + 1) - first_unit units workers p)

    pub all_given : (p : ℕ) → length outs ≡ first_unit units workers (p + 0) → given_from p ≡ []
    all_given p e =
        let at : p + 0 ≡ p = omega arith in
        let count : length outs ≡ first_unit units workers p = e ∙ ap (first_unit units workers) at in
        drop_all (first_unit units workers p) outs (omega (arith, count))

    module _ {S : Type 0} where
      -- P of each seat and of what its worker gave, from a place on
      abbrev pub EachFrom : (S → List O → Type 0) → ℕ → List S → Type 0
      EachFrom P p seats = EachAt (λ k s. P s (given (p + k))) seats

      pub head_from : (P : S → List O → Type 0) (p : ℕ) (s : S) (seats : List S) → EachFrom P p (s ∷ seats)
          → P s (given p)
      head_from P p s seats h =
          let at : p + 0 ≡ p = omega arith in
          subst (λ n. P s (given n)) at (h 0 s refl)

      pub tail_from : (P : S → List O → Type 0) (p : ℕ) (s : S) (seats : List S) → EachFrom P p (s ∷ seats)
          → EachFrom P (p + 1) seats
      tail_from P p s seats h k x e =
          let at : p + suc k ≡ (p + 1) + k = omega arith in
          subst (λ n. P x (given n)) at (h (suc k) x e)

      pub step : (p : ℕ) (s : S) (seats : List S) → length outs ≡ first_unit units workers (p + length (s ∷ seats))
          → length outs ≡ first_unit units workers ((p + 1) + length seats)
      step p s seats e =
          let at : p + length (s ∷ seats) ≡ (p + 1) + length seats = omega arith in
          e ∙ ap (first_unit units workers) at
