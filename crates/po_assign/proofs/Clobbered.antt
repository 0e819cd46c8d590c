-- An entry that leaves nothing in cc fits only where cc is dead, so no instruction of placed code empties a cc that
-- is still to be read.
use Rattle.std.proofs.Common.{◌≡◌, ℕ, zero, suc, ◌+◌, ◌<◌, Bool, true, false, List, [], ◌∷◌, length, drop, refl, sym}
use Rattle.std.proofs.Common.{◌∙◌, ap, subst, arith, ◌⊎◌, inl, inr}
use Rattle.std.specs.Prelude.{◌&&◌, if◌then◌else◌, slice_get, Option, Some, None}
use Rattle.std.proofs.lemmas.Bool.{true≢false}
use Rattle.po_term.specs.declared.term.Reg.{Reg as Register}
use Rattle.po_term.specs.declared.term.Sym.{Sym}
use Rattle.po_term.specs.Kinds.{Met, give, words}
use Rattle.po_model.specs.declared.machine.Entry.{Entry}
use Rattle.po_model.specs.declared.machine.Machine.{Machine}
use Rattle.po_model.specs.declared.var.Var.TheVariants.{Cc}
use Rattle.po_model.specs.Blocks.{PlainBlock, instrs_at}
use Rattle.po_model.specs.Fit.{Found, moves_found, answered, or_later, first_fit, fit}
use Rattle.po_model.specs.Fitted.{TellsCc}
use Rattle.po_model.specs.LiveAfter.{IsLive}
use Rattle.po_model.specs.Patterns.{pat_moves_of}
use Rattle.po_model.specs.Placed.{entry_clobbers, found_clobbers}
use Rattle.po_assign.proofs.PlacedSteps.{KeepCc}
use Rattle.po_term.specs.Moves.{PlainInstr}
use Rattle.po_model.specs.Parts.{code_leaves}

abbrev Finds : Type 0
Finds = List (Found ℕ Register Sym)

-- the entry of this number, of entries numbered from n on, doesn't clobber a live cc
abbrev IsSparing : Bool → List Entry → ℕ → ℕ → Type 0
IsSparing live es n number = (k : ℕ) × (number ≡ n + k)
    × ((e : Entry) × (slice_get es k ≡ Some e) × ((e.clobbers && live) ≡ false))

-- what is found is found at the first entry, or at a later one
found_here : (n : ℕ) (o : Option Finds) (later : Met ℕ (Option (ℕ × Finds))) (found : ℕ × Finds)
    → (or_later n o later).got ≡ Some found → (found.0 ≡ n) ⊎ (later.got ≡ Some found)
found_here n None later found h = inr h
found_here n (Some fs) later found h = let e : (n, fs) ≡ found = (cc) in inl (sym (ap {A = ℕ × Finds} (λ p. p.0) e))

found_first : (n : ℕ) (c : Bool) (here : Met ℕ (Option Finds)) (later : Met ℕ (Option (ℕ × Finds))) (found : ℕ × Finds)
    → (or_later n (if c then give {K = ℕ} None else here).got later).got ≡ Some found → ((c ≡ false) × (found.0 ≡ n))
    ⊎ (later.got ≡ Some found)
found_first n true here later found h = inr h
found_first n false here later found h =
    elim (found_here n here.got later found h) [
      | inl e ↦ inl (refl, e)
      | inr e ↦ inr e
    ]

found_sparing : (live : Bool) (es : List Entry) (n : ℕ) (x : PlainInstr) (found : ℕ × Finds)
    → (first_fit code_leaves words live es n x).got ≡ Some found → IsSparing live es n found.0
found_sparing live [] n x found h = absurd (cc)
found_sparing live (e ∷ es) n x found h =
    elim (found_first n (e.clobbers && live) (answered code_leaves words
    (moves_found code_leaves (pat_moves_of e.pattern) x)) (first_fit code_leaves words live es (suc n) x) found h) [
      | inl i ↦ (0, omega (arith, i.1), (e, refl, i.0))
      | inr i ↦ let later = found_sparing live es (suc n) x found i in (suc later.0, omega (arith, later.1), later.2)
    ]

spared : (c live : Bool) → (c && live) ≡ false → live ≡ true → c ≡ false
spared true live e l = absurd (true≢false (sym l ∙ e))
spared false live e l = refl

-- the entry that an instruction fits where cc is live
fit_sparing : (m : Machine) (live : Bool) (x : PlainInstr) (o : Option (ℕ × Finds)) → fit m live x ≡ o → live ≡ true
    → found_clobbers m o ≡ false
fit_sparing m live x None f l = refl
fit_sparing m live x (Some found) f l =
    let s = found_sparing live m.entries 0 x found f in
    let number : s.0 ≡ found.0 = omega (arith, s.1) in
    let entry = s.2.0 in
    ap entry_clobbers (subst (λ k. slice_get m.entries k ≡ Some entry) number s.2.1) ∙ spared entry.clobbers live
    s.2.2 l

-- what stands at a place of a list, and behind it
taken_at : {X : Type 0} (i : ℕ) (ys : List X) (x : X) (xs : List X) → x ∷ xs ≡ drop i ys → (i < length ys)
    × (xs ≡ drop (suc i) ys)
taken_at zero [] x xs e = absurd (cc)
taken_at (suc i) [] x xs e = absurd (cc)
taken_at zero (y ∷ ys) x xs e = (omega arith, (cc))
taken_at (suc i) (y ∷ ys) x xs e = let later = taken_at i ys x xs e in (omega (arith, later.0), later.1)

module _ (m : Machine) (at : ℕ → ℕ) (code : List PlainBlock) (live : ℕ → ℕ → Bool) (tells : TellsCc code live) where
  keeps_from : (b i : ℕ) (xs : List PlainInstr) → xs ≡ drop i (instrs_at code b) → KeepCc m at code b (live b) i xs
  keeps_from b i [] e = tt
  keeps_from b i (x ∷ xs) e =
      let here = taken_at i (instrs_at code b) x xs e in (
        λ l. fit_sparing m (live b i) x (fit m (live b i) x) refl
            ((tells b i here.0).1 (subst (λ ys. IsLive code Cc (record { block = b; rest = ys })) here.1 l)),
        keeps_from b (suc i) xs here.1,
      )

  pub keeps_cc : (b : ℕ) → KeepCc m at code b (live b) 0 (instrs_at code b)
  keeps_cc b = keeps_from b 0 (instrs_at code b) refl
