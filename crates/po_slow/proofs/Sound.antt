-- A combination keeps the effect: what holds of the joint list, and what recognition adds to it.
use Rattle.std.proofs.Common.{◌≡◌, ℕ, zero, suc, Bool, true, false, List, [], ◌∷◌, ◌++◌, get_or, Option, Some, None}
use Rattle.std.proofs.Common.{refl, sym, ap, ◌∙◌, subst, arith}
use Rattle.std.specs.Prelude.{All, Contains, IsTrue, IsSome, is_some, not, ◌||◌, ◌&&◌}
use Rattle.std.specs.List.{list_any}
use Rattle.std.proofs.lemmas.Bool.{false≢true, true≢false}
use Rattle.po_term.specs.declared.term.Reg.{Reg as Register}
use Rattle.po_term.specs.declared.term.Sym.{Sym}
use Rattle.po_term.specs.Tree.{Tree}
use Rattle.po_term.specs.Terms.{Place, InReg, State, IsState}
use Rattle.po_term.specs.Moves.{GoTo, IfCc, IfTwo, CallOf, Return, SetTo, CcTo, StoreTo, Ends, PlainMove, PlainInstr}
use Rattle.po_term.specs.Form.{WellFormed, WellFormedMove, WellFormedTerm}
use Rattle.po_term.specs.Kinds.{words}
use Rattle.po_term.specs.Simplified.{reg_eq}
use Rattle.po_model.specs.declared.machine.Machine.{Machine}
use Rattle.po_model.specs.declared.var.Var.{Var}
use Rattle.po_model.specs.declared.var.Var.TheVariants.{Reg, Cc}
use Rattle.po_model.specs.Parts.{code_leaves, right_at, ending_of}
use Rattle.po_model.specs.Effect.{effect}
use Rattle.po_model.specs.Keeps.{SameEffect, effect_of_both}
use Rattle.po_model.specs.LiveAfter.{reads, sets}
use Rattle.po_model.specs.Joined.{Joint, NotJoined, NothingLeft, is_control, is_away, joined}
use Rattle.po_model.specs.Joined as joint
use Rattle.po_model.specs.Fit.{Found, fit}
use Rattle.po_model.specs.Machines.{IsMachine}
use Rattle.po_model.specs.Pairs.{PlainPair, is_live_after, is_set_in, WellFormedPair}
use Rattle.po_model.specs.Combined.{if_fit, recognised, combination, Answer}
use Rattle.po_recog.specs.Limits.{IsSmall, HasSmallTerms, IsWithinLimits}
use Rattle.po_recog.proofs.Limits.{within_limits}
use Rattle.po_subst.specs.KeepsEffect.{OfList, lives, live_before, TermInRange, MoveInRange, HasForm, labels_in}
use Rattle.po_subst.specs.KeepsEffect.{syms_in}
use Rattle.po_subst.proofs.Agreeing.{one_register}
use Rattle.po_subst.proofs.Alike.{or_false}
use Rattle.po_subst.proofs.Joint.{joined_where}
use Rattle.po_subst.proofs.Keeping.{joined_keeps}
use Rattle.po_subst.proofs.Reading.{right_unset, stays_here, joined_makes_nothing}
use Rattle.po_subst.proofs.Forms.{joined_form}
use Rattle.po_slow.specs.KeepsEffect.{InPlace, IsLiveAfter, IsFormed, KeepsEffect}

abbrev Joining : Type 0
Joining = Joint ℕ Place Register Sym

-- what holds of the joint list holds of it where it is recognised
pub in_place : (m : Machine) (cc_live : Bool) (Q : PlainInstr → Type 0) (x : Joining) → OfList x Q
    → InPlace (recognised words code_leaves m cc_live x).got Q
in_place m cc_live Q NotJoined h = tt
in_place m cc_live Q NothingLeft h = h
in_place m cc_live Q (joint.AsOne j) h = go (fit m cc_live j)
  where
    go : (o : Option (ℕ × List (Found ℕ Register Sym))) → InPlace (if_fit j o) Q
    go None = tt
    go (Some found) = h

-- two facts of the joint list, and what follows from them
from_both : (P Q R : PlainInstr → Type 0) (x : Joining) → ((j : PlainInstr) → P j → Q j → R j) → OfList x P
    → OfList x Q → OfList x R
from_both P Q R NotJoined f h i = tt
from_both P Q R NothingLeft f h i = f [] h i
from_both P Q R (joint.AsOne j) f h i = f j h i

-- The form

formed_term : (t : Tree ℕ Place) → TermInRange t → IsSmall t → WellFormedTerm t
formed_term t r s = record { size = s.size; depth = s.depth; words = r.words; places = r.places }

formed_move : (x : PlainMove) → MoveInRange x → HasSmallTerms x → WellFormedMove x
formed_move (SetTo r t) h s = (h.0, h.1, formed_term t h.2 s)
formed_move (CcTo t u) h s = (formed_term t h.0 s.0, formed_term u h.1 s.1)
formed_move (StoreTo t u) h s = (formed_term t h.0 s.0, formed_term u h.1 s.1)
formed_move (Ends (GoTo l)) h s = h
formed_move (Ends (IfCc r l)) h s = h
formed_move (Ends (IfTwo t u r l)) h s = (formed_term t h.0 s.0, formed_term u h.1 s.1, h.2)
formed_move (Ends (CallOf f n)) h s = h
formed_move (Ends Return) h s = tt

formed_list : (a b j : PlainInstr) → HasForm a b j → IsWithinLimits j → WellFormed j
formed_list a b j h w = record {
  some = w.some;
  few = w.few;
  pairs = h.pairs;
  each = λ k d l. formed_move (get_or j k d) (h.each k d l) (w.terms k d l);
}

formed_answer : (m : Machine) (cc_live : Bool) (a b : PlainInstr) → IsMachine m → (x : Joining)
    → OfList x (λ j. HasForm a b j) → IsFormed (recognised words code_leaves m cc_live x).got
formed_answer m cc_live a b allowed NotJoined h = tt
formed_answer m cc_live a b allowed NothingLeft h = tt
formed_answer m cc_live a b allowed (joint.AsOne j) h =
    go (fit m cc_live j) (λ there. formed_list a b j h (within_limits m cc_live j allowed there))
  where
    go : (o : Option (ℕ × List (Found ℕ Register Sym))) → (IsSome o → WellFormed j) → IsFormed (if_fit j o)
    go None f = tt
    go (Some found) f = f refl

-- What is live

-- a variable of which both sets say the same
same_here : (a b j : PlainInstr) (own live : Var → Bool) (v : Var) → live v ≡ own v
    → (live_before j own v ≡ true → live_before a (live_before b own) v ≡ true) → live_before j live v ≡ true
    → live_before a (live_before b live) v ≡ true
same_here a b j own live v e h = rw e h

-- one that neither instruction sets, and that the pair doesn't name as live
passes_by : (ra rb rj sj l : Bool)
    → ((rj || (not sj && false)) ≡ true → (ra || (true && (rb || (true && false)))) ≡ true)
    → (rj || (not sj && l)) ≡ true → (ra || (true && (rb || (true && l)))) ≡ true
passes_by true rb rj sj l h i = refl
passes_by false true rj sj l h i = refl
passes_by false false rj sj true h i = refl
passes_by false false rj sj false h i = h i

unset_here : (a b j : PlainInstr) (own live : Var → Bool) (v : Var) → sets a v ≡ false → sets b v ≡ false
    → own v ≡ false → (live_before j own v ≡ true → live_before a (live_before b own) v ≡ true)
    → live_before j live v ≡ true → live_before a (live_before b live) v ≡ true
unset_here a b j own live v x y z h =
    rw (x, y) (passes_by (reads a v) (reads b v) (reads j v) (sets j v) (live v) (rw (x, y, z) at h))

not_there : (o : Option (Tree ℕ Place)) → is_some o ≡ false → o ≡ None
not_there None h = refl
not_there (Some t) h = absurd (true≢false h)

-- what the pair names as live, one of the two sets
named : (f : Register → Bool) (qs : List Register) → All (λ q. IsTrue (f q)) qs → (r : Register) → f r ≡ false
    → list_any (reg_eq r) qs ≡ false
named f [] h r e = refl
named f (q ∷ qs) h r e = go (reg_eq r q) refl (named f qs (λ k d l. h (suc k) d (omega (arith, l))) r e)
  where
    go : (c : Bool) → reg_eq r q ≡ c → list_any (reg_eq r) qs ≡ false → (c || list_any (reg_eq r) qs) ≡ false
    go true i rest = absurd (false≢true (sym e ∙ (ap f (one_register r q i) ∙ h zero q (omega arith))))
    go false i rest = rest

module _ (m : Machine) (p : PlainPair) (h : WellFormedPair p) where
  abbrev own : Var → Bool
  own v = lives (is_live_after p) p.cc v

  abbrev come_to : Joining
  come_to = (joined words code_leaves (is_live_after p) p.cc p.a p.b).got

  -- the facts of the joint list
  stays : OfList come_to (λ j. (list_any is_control p.a ≡ false) × (list_any is_away p.b ≡ false))
  stays =
      joined_where (is_live_after p) p.cc p.a p.b
      (λ j. (list_any is_control p.a ≡ false) × (list_any is_away p.b ≡ false)) (λ f j. (j.no_control, j.no_away))

  abbrev SameSeen : State → PlainInstr → Type 0
  SameSeen s j = SameEffect (is_live_after p) p.cc p.a p.b (effect_of_both p.a p.b s) (effect j s)

  kept : (s : State) → IsState s → OfList come_to (SameSeen s)
  kept s fits = joined_keeps (is_live_after p) p.cc p.a p.b h.first h.second s fits

  form : OfList come_to (λ j. HasForm p.a p.b j)
  form = joined_form (is_live_after p) p.cc p.a p.b h.first h.second

  -- one of them, of the answer
  of_form : (Q : PlainInstr → Type 0) → ((j : PlainInstr) → HasForm p.a p.b j → Q j) → InPlace (combination m p) Q
  of_form Q f =
      in_place m p.cc Q come_to
      (from_both (λ j. HasForm p.a p.b j) (λ j. HasForm p.a p.b j) Q come_to (λ j x y. f j x) form form)

  live_here : (live : Var → Bool) → IsLiveAfter p live → (v : Var) → (j : PlainInstr)
      → (list_any is_control p.a ≡ false) × (list_any is_away p.b ≡ false)
      → (live_before j own v ≡ true → live_before p.a (live_before p.b own) v ≡ true) → live_before j live v ≡ true
      → live_before p.a (live_before p.b live) v ≡ true
  live_here live l Cc j n law = same_here p.a p.b j own live Cc l.cc law
  live_here live l (Reg r) j n law = go (is_set_in p.a r || is_set_in p.b r) refl
    where
      go : (c : Bool) → (is_set_in p.a r || is_set_in p.b r) ≡ c → live_before j live (Reg r) ≡ true
          → live_before p.a (live_before p.b live) (Reg r) ≡ true
      go true e = same_here p.a p.b j own live (Reg r) (l.regs r e) law
      go false e =
          let two = or_false (is_set_in p.a r) (is_set_in p.b r) e in
          unset_here p.a p.b j own live (Reg r)
          (right_unset r p.a (stays_here p.a n.0) (not_there (right_at code_leaves (InReg r) p.a) two.0))
          (right_unset r p.b n.1 (not_there (right_at code_leaves (InReg r) p.b) two.1))
          (named (λ q. is_set_in p.a q || is_set_in p.b q) p.regs h.set r e) law

  pub keeps_effect : KeepsEffect m p (combination m p)
  keeps_effect = record {
    keeps = λ s fits. in_place m p.cc (SameSeen s) come_to (kept s fits);
    formed = λ allowed. formed_answer m p.cc p.a p.b allowed come_to form;
    labels = of_form (λ j. All (Contains (labels_in p.a ++ labels_in p.b)) (labels_in j)) (λ j f. f.labels);
    symbols = of_form (λ j. All (Contains (syms_in p.a ++ syms_in p.b)) (syms_in j)) (λ j f. f.symbols);
    control = of_form (λ j. is_some (ending_of p.b) ≡ false → is_some (ending_of j) ≡ false) (λ j f. f.control);
    targets = of_form (λ j. (v : Var) → sets j v ≡ true → (sets p.a v || sets p.b v) ≡ true) (λ j f. f.targets);
    nothing_live =
        λ live l v. in_place m p.cc
        (λ j. live_before j live v ≡ true → live_before p.a (live_before p.b live) v ≡ true) come_to
        (from_both (λ j. (list_any is_control p.a ≡ false) × (list_any is_away p.b ≡ false))
        (λ j. live_before j own v ≡ true → live_before p.a (live_before p.b own) v ≡ true)
        (λ j. live_before j live v ≡ true → live_before p.a (live_before p.b live) v ≡ true) come_to
        (λ j n law. live_here live l v j n law) stays
        (joined_makes_nothing (is_live_after p) p.cc p.a p.b h.first h.second v));
  }

-- the same of an answer that is the combination
pub answer_keeps : (m : Machine) (p : PlainPair) (answer : Answer) → answer ≡ combination m p → WellFormedPair p
    → KeepsEffect m p answer
answer_keeps m p answer e h = subst (λ (x : Answer). KeepsEffect m p x) (sym e) (keeps_effect m p h)
