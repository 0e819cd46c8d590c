-- An instruction that only sets what isn't live leaves no trace.
use Rattle.std.proofs.Common.{◌≡◌, Bool, true, false, [], ◌∷◌, refl, sym, ◌∙◌, ap}
use Rattle.std.specs.Prelude.{◌||◌, ◌&&◌, not, if◌then◌else◌, is_some, Option, Some, None}
use Rattle.std.proofs.lemmas.Bool.{false≢true, not-true, and_parts}
use Rattle.po_term.specs.declared.term.Reg.{Reg as Register}
use Rattle.po_term.specs.declared.term.Sym.{Sym}
use Rattle.po_term.specs.Terms.{Place, InReg, AtSym}
use Rattle.po_term.specs.Moves.{SetTo, CcTo, StoreTo, Ends, PlainInstr}
use Rattle.po_term.specs.Simplified.{reg_eq}
use Rattle.po_model.specs.declared.var.Var.{Var}
use Rattle.po_model.specs.declared.var.Var.TheVariants.{Reg, Cc}
use Rattle.po_model.specs.Parts.{code_leaves, right_at, cc_of, store_of}
use Rattle.po_model.specs.Effect.{Next, new_word, new_memory, new_cc, after}
use Rattle.po_model.specs.Keeps.{matters}
use Rattle.po_model.specs.Scanned.{is_dead}
use Rattle.po_subst.proofs.Agreeing.{one_register}
use Rattle.po_slow.specs.Dead.{DeadLeavesNoTrace}
use Rattle.po_slow.proofs.LivenessFlow.{dead_ending}
use Rattle.po_slow.proofs.RunsReplace.{effect_next}

-- a list of transfers that only sets what isn't live does nothing else
module _ (live : Var → Bool) where
  pub dead_store : (ms : PlainInstr) → is_dead live ms ≡ true → store_of ms ≡ None
  dead_store [] h = refl
  dead_store (SetTo r t ∷ ms) h = dead_store ms (and_parts (not (live (Reg r))) (is_dead live ms) h).1
  dead_store (CcTo t u ∷ ms) h = dead_store ms (and_parts (not (live Cc)) (is_dead live ms) h).1
  dead_store (StoreTo t u ∷ ms) h = absurd (false≢true h)
  dead_store (Ends e ∷ ms) h = absurd (false≢true h)

  pub dead_cc : (ms : PlainInstr) → is_dead live ms ≡ true → live Cc ≡ true → cc_of ms ≡ None
  dead_cc [] h l = refl
  dead_cc (SetTo r t ∷ ms) h l = dead_cc ms (and_parts (not (live (Reg r))) (is_dead live ms) h).1 l
  dead_cc (CcTo t u ∷ ms) h l =
      absurd (false≢true (sym (not-true (live Cc) (and_parts (not (live Cc)) (is_dead live ms) h).0) ∙ l))
  dead_cc (StoreTo t u ∷ ms) h l = absurd (false≢true h)
  dead_cc (Ends e ∷ ms) h l = absurd (false≢true h)

  pub dead_right : (q : Register) (ms : PlainInstr) → is_dead live ms ≡ true → live (Reg q) ≡ true
      → right_at code_leaves (InReg q) ms ≡ None
  dead_right q [] h l = refl
  dead_right q (SetTo r t ∷ ms) h l =
      go (reg_eq q r) refl (dead_right q ms (and_parts (not (live (Reg r))) (is_dead live ms) h).1 l)
    where
      dead : live (Reg r) ≡ false
      dead = not-true (live (Reg r)) (and_parts (not (live (Reg r))) (is_dead live ms) h).0

      go : (b : Bool) → reg_eq q r ≡ b → right_at code_leaves (InReg q) ms ≡ None
          → (if b then Some t else right_at code_leaves (InReg q) ms) ≡ None
      go true e ih =
          absurd (false≢true (sym dead ∙ sym (ap (λ (x : Register). live (Reg x)) (one_register q r e)) ∙ l))
      go false e ih = ih
  dead_right q (CcTo t u ∷ ms) h l = dead_right q ms (and_parts (not (live Cc)) (is_dead live ms) h).1 l
  dead_right q (StoreTo t u ∷ ms) h l = absurd (false≢true h)
  dead_right q (Ends e ∷ ms) h l = absurd (false≢true h)

pub symbol_unset : (y : Sym) (ms : PlainInstr) → right_at code_leaves (AtSym y) ms ≡ None
symbol_unset y [] = refl
symbol_unset y (SetTo r t ∷ ms) = symbol_unset y ms
symbol_unset y (CcTo t u ∷ ms) = symbol_unset y ms
symbol_unset y (StoreTo t u ∷ ms) = symbol_unset y ms
symbol_unset y (Ends e ∷ ms) = symbol_unset y ms

-- what is live isn't set, and what isn't set stays
unset : {A : Type 0} (live : Bool) (o : Option A) → (live ≡ true → o ≡ None)
    → (live || (not (is_some o) && true)) ≡ true → o ≡ None
unset true o h e = h refl
unset false None h e = refl
unset false (Some x) h e = absurd (false≢true e)

pub leaves_no_trace : DeadLeavesNoTrace
leaves_no_trace live x s h = (
  record { state = after s x; to = Next },
  effect_next x (dead_ending live x h) s,
  record {
    control = refl;
    memory = λ a. ap (λ o. new_memory s o a) (dead_store live x h);
    places = place;
    compared = λ e. ap (λ o. new_cc s o) (unset (live Cc) (cc_of x) (dead_cc live x h) e);
  },
)
  where
    place : (q : Place) → matters (λ r. live (Reg r)) x [] q ≡ true
        → new_word s (right_at code_leaves q x) (s.place q) ≡ s.place q
    place (InReg r) e =
        ap (λ o. new_word s o (s.place (InReg r)))
        (unset (live (Reg r)) (right_at code_leaves (InReg r) x) (dead_right live r x h) e)
    place (AtSym y) e = ap (λ o. new_word s o (s.place (AtSym y))) (symbol_unset y x)
