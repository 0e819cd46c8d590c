-- Within a pass the instructions of a block, those that are done and those that are to come, do what the block did.
use Rattle.std.proofs.Common.{◌≡◌, ℕ, zero, suc, ◌<◌, Bool, true, false, List, [], ◌∷◌, length, drop, refl, sym, ◌∙◌}
use Rattle.std.proofs.Common.{ap, subst, arith}
use Rattle.std.specs.Prelude.{◌||◌, ◌&&◌, not, is_some, Option, Some, None, ⊤}
use mathlib.Core.Logic.{inl, inr}
use Rattle.po_term.specs.declared.term.Reg.{Reg as Register}
use Rattle.po_term.specs.Terms.{InReg, AtSym, State, IsState}
use Rattle.po_term.specs.Form.{WellFormed}
use Rattle.po_model.specs.declared.machine.Machine.{Machine}
use Rattle.po_model.specs.declared.var.Var.{Var}
use Rattle.po_model.specs.declared.var.Var.TheVariants.{Reg, Cc}
use Rattle.po_model.specs.Blocks.{PlainBlock, instrs_at, EndsLast}
use Rattle.po_model.specs.Parts.{cc_of, ending_of}
use Rattle.po_model.specs.Effect.{Effected, new_word, new_memory, new_cc, after, effect}
use Rattle.po_model.specs.Keeps.{matters, SameEnd, SameEffect, effect_of_both, then_effect}
use Rattle.po_model.specs.LiveAfter.{sets, IsLive}
use Rattle.po_model.specs.Machines.{IsMachine}
use Rattle.po_model.specs.Pairs.{is_live_after, is_set_in}
use Rattle.po_model.specs.Combined.{Gone, AsOne, combination, Answer}
use Rattle.po_model.specs.Scanned.{Ahead, is_dead, pair_with, instrs_ahead, Tells}
use Rattle.po_subst.proofs.Alike.{none_of}
use Rattle.po_subst.proofs.Reading.{left_true}
use Rattle.po_slow.specs.KeepsEffect.{KeepsEffect}
use Rattle.po_slow.proofs.Sound.{answer_keeps}
use Rattle.po_slow.proofs.Onto.{onto}
use Rattle.po_slow.proofs.Blockwise.{instrs_in, ahead_instrs}
use Rattle.po_slow.proofs.PairWith.{pair_formed, pair_tells}
use Rattle.po_slow.proofs.LivenessFlow.{dead_ending}
use Rattle.po_slow.proofs.Dead.{dead_store, dead_cc, dead_right, symbol_unset}
use Rattle.po_slow.proofs.RunsRead.{Variables, Passing, Agree, Alike, LeavesWords, instr_formed, alike_joins}
use Rattle.po_slow.proofs.RunsRead.{alike_self, passing_in, after_fits, effect_fits}
use Rattle.po_slow.proofs.RunsReplace.{doing, Back, AreFormed, AreCalm, Replaces, effect_next, doing_next, doing_fits}
use Rattle.po_slow.proofs.RunsReplace.{behind, goes_on_to, ends_rest, ends_split, ends_onto, formed_split, formed_onto}
use Rattle.po_slow.proofs.RunsReplace.{onto_replaces}
use Rattle.po_term.specs.Moves.{PlainInstr}

-- what is live is told so
abbrev pub IsToldBy : Variables → (Var → Bool) → Type 0
IsToldBy L live = (v : Var) → L v → live v ≡ true

dead_alike : (L : Variables) (live : Var → Bool) (x : PlainInstr) → IsToldBy L live → WellFormed x
    → is_dead live x ≡ true → (s : State) → IsState s → Alike L (effect x s) (effect [] s)
dead_alike L live x told f h s fits =
    rw (effect_next x (dead_ending live x h) s) (
      refl,
      record {
        first = after_fits s fits x (instr_formed x f).0;
        second = fits;
        memory = λ a. ap (λ o. new_memory s o a) (dead_store live x h);
        symbols = λ y. ap (λ o. new_word s o (s.place (AtSym y))) (symbol_unset y x);
        registers = λ r l. ap (λ o. new_word s o (s.place (InReg r))) (dead_right live r x h (told (Reg r) l));
        compared = λ l. ap (λ o. new_cc s o) (dead_cc live x h (told Cc l));
      },
    )

-- A pair

both_matter : (l a b : Bool) → ((a || b) ≡ true → l ≡ true) → (l || (not a && not b)) ≡ true
both_matter true a b h = refl
both_matter false true b h = h refl
both_matter false false true h = h refl
both_matter false false false h = refl

-- what is told live after a pair matters to it
register_matters : (d : PlainInstr) (x : Ahead) (r : Register) → x.live (Reg r) ≡ true
    → matters (is_live_after (pair_with d x)) d x.instr (InReg r) ≡ true
register_matters d x r l =
    both_matter (is_live_after (pair_with d x) r) (is_set_in d r) (is_set_in x.instr r)
    (λ e. sym ((pair_tells d x).regs r e) ∙ l)

-- what a pair does, and what a list in its place does, can't be told apart
abbrev pub SameSeen : PlainInstr → Ahead → Option Effected → Option Effected → Type 0
SameSeen d x = SameEffect (is_live_after (pair_with d x)) (x.live Cc) d x.instr

end_alike : (L : Variables) (d : PlainInstr) (x : Ahead) → IsToldBy L x.live → (e f : Effected) → IsState e.state
    → IsState f.state → SameEnd (is_live_after (pair_with d x)) (x.live Cc) d x.instr e f
    → Agree (Passing e.to L) e.state f.state
end_alike L d x told e f g h same = record {
  first = g;
  second = h;
  memory = same.memory;
  symbols = λ y. same.places (AtSym y) refl;
  registers = λ r p. same.places (InReg r) (register_matters d x r (told (Reg r) (passing_in e.to L (Reg r) p)));
  compared =
      λ p. same.compared (left_true (x.live Cc) (not (is_some (cc_of d)) && not (is_some (cc_of x.instr)))
      (told Cc (passing_in e.to L Cc p)));
}

pair_alike : (L : Variables) (d : PlainInstr) (x : Ahead) → IsToldBy L x.live → (o p : Option Effected) → LeavesWords o
    → LeavesWords p → SameSeen d x o p → Alike L o p
pair_alike L d x told None None g h same = tt
pair_alike L d x told (Some e) (Some f) g h same = (same.control, end_alike L d x told e f g h same)
pair_alike L d x told None (Some f) g h same = absurd same
pair_alike L d x told (Some e) None g h same = absurd same

-- what a pair does is what its second instruction does behind the first, where that goes on
both_next : (d x : PlainInstr) → ending_of d ≡ None → (s : State) → effect_of_both d x s ≡ effect x (after s d)
both_next d x n s = ap (λ o. then_effect x o) (effect_next d n s)

-- one list that does what the pair does, with the rest of the block behind it
pair_replaces : (L : Variables) (d : PlainInstr) (x : Ahead) (j : PlainInstr) (rest : List PlainInstr)
    → WellFormed d → WellFormed x.instr → ((s : State) → IsState s → LeavesWords (effect j s)) → AreFormed rest
    → ending_of d ≡ None → EndsLast (x.instr ∷ rest) → IsToldBy (Back rest L) x.live
    → ((s : State) → IsState s → SameSeen d x (effect_of_both d x.instr s) (effect j s))
    → Replaces L (d ∷ x.instr ∷ rest) (j ∷ rest)
pair_replaces L d x j rest f g leaves h n k told same s fits =
    let middle = after_fits s fits d (instr_formed d f).0 in
    rw (doing_next d n (x.instr ∷ rest) s)
    (behind L rest h (ends_rest x.instr rest k) (effect x.instr (after s d)) (effect j s)
    (goes_on_to x.instr rest k (after s d))
    (pair_alike (Back rest L) d x told (effect x.instr (after s d)) (effect j s)
    (effect_fits (after s d) middle x.instr (instr_formed x.instr g).0) (leaves s fits)
    (subst (λ (o : Option Effected). SameSeen d x o (effect j s)) (both_next d x.instr n s) (same s fits))))

-- Where the scan of a block stands

-- what is live behind a block
abbrev pub OutOf : List PlainBlock → ℕ → Variables
OutOf code b v = IsLive code v (record { block = b; rest = [] })

-- what is live before instructions at the end of a block, by what is live behind it
pub back_live : (code : List PlainBlock) (b : ℕ) (xs : List PlainInstr) (v : Var) → Back xs (OutOf code b) v
    → IsLive code v (record { block = b; rest = xs })
back_live code b [] v h = h
back_live code b (x ∷ xs) v (inl r) = inr ([], r)
back_live code b (x ∷ xs) v (inr p) = further p.0 (back_live code b xs v p.1)
  where
    further : sets x v ≡ false → IsLive code v (record { block = b; rest = xs })
        → IsLive code v (record { block = b; rest = x ∷ xs })
    further n (inl e) = inl e
    further n (inr r) = inr (record { block = b; rest = xs } ∷ r.0, (n, (refl, refl), r.1))

-- with each of these instructions stands what is live after it
abbrev pub AreTold : List PlainBlock → ℕ → List Ahead → Type 0
AreTold code b [] = ⊤
AreTold code b (x ∷ xs) = IsToldBy (Back (instrs_in xs) (OutOf code b)) x.live × AreTold code b xs

-- what is done of the block b and what is to come is in form, tells what is live, and does what the block did
pub record Within (code : List PlainBlock) (b : ℕ) (done : List PlainInstr) (rest : List Ahead) : Type 0 where
  pub formed : AreFormed (onto done (instrs_in rest))
  pub ends : EndsLast (onto done (instrs_in rest))
  pub told : AreTold code b rest
  pub same : Replaces (OutOf code b) (instrs_at code b) (onto done (instrs_in rest))

dropped_more : (i : ℕ) (all : List PlainInstr) (x : PlainInstr) (xs : List PlainInstr) → x ∷ xs ≡ drop i all
    → (i < length all) × (xs ≡ drop (suc i) all)
dropped_more zero [] x xs e = absurd (cc)
dropped_more zero (y ∷ ys) x xs e = (omega arith, (cc))
dropped_more (suc i) [] x xs e = absurd (cc)
dropped_more (suc i) (y ∷ ys) x xs e = let ih = dropped_more i ys x xs e in (omega (arith, ih.0), ih.1)

start_told : (code : List PlainBlock) (live : ℕ → ℕ → Var → Bool) → Tells code live → (b i : ℕ) (xs : List PlainInstr)
    → xs ≡ drop i (instrs_at code b) → AreTold code b (instrs_ahead (live b) i xs)
start_told code live tells b i [] e = tt
start_told code live tells b i (x ∷ xs) e =
    let more = dropped_more i (instrs_at code b) x xs e in (
      λ v h. (tells b i v more.0).1 (subst (λ (ys : List PlainInstr). IsLive code v (record { block = b; rest = ys }))
          more.1 (back_live code b xs v
          (subst (λ (ys : List PlainInstr). Back ys (OutOf code b) v) (ahead_instrs (live b) (suc i) xs) h))),
      start_told code live tells b (suc i) xs more.1,
    )

pub within_start : (code : List PlainBlock) (live : ℕ → ℕ → Var → Bool) → Tells code live → (b : ℕ)
    → AreFormed (instrs_at code b) → EndsLast (instrs_at code b)
    → Within code b [] (instrs_ahead (live b) 0 (instrs_at code b))
within_start code live tells b f k =
    let same = sym (ahead_instrs (live b) 0 (instrs_at code b)) in
    record {
      formed = subst (λ (ys : List PlainInstr). AreFormed ys) same f;
      ends = subst (λ (ys : List PlainInstr). EndsLast ys) same k;
      told = start_told code live tells b 0 (instrs_at code b) refl;
      same =
          subst (λ (ys : List PlainInstr). Replaces (OutOf code b) (instrs_at code b) ys) same
          (λ s fits.
          alike_self (OutOf code b) (doing (instrs_at code b) s) (doing_fits (instrs_at code b) s f fits));
    }

-- other instructions behind what is done
replaced : (code : List PlainBlock) (b : ℕ) (done xs ys : List PlainInstr) → AreFormed done → AreCalm done
    → Replaces (OutOf code b) (instrs_at code b) (onto done xs) → Replaces (OutOf code b) xs ys
    → Replaces (OutOf code b) (instrs_at code b) (onto done ys)
replaced code b done xs ys f c before h s fits =
    alike_joins (OutOf code b) (doing (instrs_at code b) s) (doing (onto done xs) s) (doing (onto done ys) s)
    (before s fits) (onto_replaces (OutOf code b) done xs ys f c h s fits)

pub within_taken : (code : List PlainBlock) (b : ℕ) (done : List PlainInstr) (x : Ahead) (xs : List Ahead)
    → Within code b done (x ∷ xs) → Within code b (x.instr ∷ done) xs
within_taken code b done x xs w = record { formed = w.formed; ends = w.ends; told = w.told.1; same = w.same }

pub within_dropped : (code : List PlainBlock) (b : ℕ) (done : List PlainInstr) (x : Ahead) (xs : List Ahead)
    → Within code b done (x ∷ xs) → is_dead x.live x.instr ≡ true → Within code b done xs
within_dropped code b done x xs w h =
    let rest = instrs_in xs in
    let f = formed_split done (x.instr ∷ rest) w.formed in
    let k = ends_split done x.instr rest w.ends in
    let l = ends_rest x.instr rest k.1 in
    record {
      formed = formed_onto done rest f.0 f.1.1;
      ends = ends_onto done rest k.0 l;
      told = w.told.1;
      same = replaced code b done (x.instr ∷ rest) rest f.0 k.0 w.same
          (λ s fits. behind (OutOf code b) rest f.1.1 l (effect x.instr s) (effect [] s)
          (goes_on_to x.instr rest k.1 s)
          (dead_alike (Back rest (OutOf code b)) x.live x.instr w.told.0 f.1.0 h s fits));
    }

still_ends : (x y : PlainInstr) (xs : List PlainInstr)
    → (is_some (ending_of x) ≡ false → is_some (ending_of y) ≡ false) → EndsLast (x ∷ xs) → EndsLast (y ∷ xs)
still_ends x y [] h k = tt
still_ends x y (z ∷ zs) h k = (none_of (ending_of y) (h (ap is_some k.0)), k.1)

module _ (m : Machine) (code : List PlainBlock) (b : ℕ) (d : PlainInstr) (done : List PlainInstr) (x : Ahead)
    (xs : List Ahead) (w : Within code b (d ∷ done) (x ∷ xs)) where
  abbrev rest : List PlainInstr
  rest = instrs_in xs

  forms : AreFormed done × AreFormed (d ∷ x.instr ∷ rest)
  forms = formed_split done (d ∷ x.instr ∷ rest) w.formed

  ending : AreCalm done × EndsLast (d ∷ x.instr ∷ rest)
  ending = ends_split done d (x.instr ∷ rest) w.ends

  keeps : (answer : Answer) → combination m (pair_with d x) ≡ answer → KeepsEffect m (pair_with d x) answer
  keeps answer e = answer_keeps m (pair_with d x) answer (sym e) (pair_formed d x forms.1.0 forms.1.1.0)

  -- what stands in the place of the pair
  instead : (j : PlainInstr) → ((s : State) → IsState s → LeavesWords (effect j s))
      → ((s : State) → IsState s → SameSeen d x (effect_of_both d x.instr s) (effect j s))
      → Replaces (OutOf code b) (instrs_at code b) (onto done (j ∷ rest))
  instead j leaves same =
      replaced code b done (d ∷ x.instr ∷ rest) (j ∷ rest) forms.0 ending.0 w.same
      (pair_replaces (OutOf code b) d x j rest forms.1.0 forms.1.1.0 leaves forms.1.1.1 ending.1.0 ending.1.1 w.told.0
      same)

  pub within_one : IsMachine m → (y : PlainInstr) → combination m (pair_with d x) ≡ AsOne y
      → Within code b done (record { instr = y; live = x.live } ∷ xs)
  within_one allowed y e =
      let k = keeps (AsOne y) e in
      let f = k.formed allowed in
      record {
        formed = formed_onto done (y ∷ rest) forms.0 (f, forms.1.1.1);
        ends = ends_onto done (y ∷ rest) ending.0 (still_ends x.instr y rest k.control ending.1.1);
        told = w.told;
        same = instead y (λ s fits. effect_fits s fits y (instr_formed y f).0) k.keeps;
      }

  pub within_gone : combination m (pair_with d x) ≡ Gone → Within code b done xs
  within_gone e =
      let k = keeps Gone e in
      let f = forms.1.1.1 in
      let l = ends_rest x.instr rest ending.1.1 in
      record {
        formed = formed_onto done rest forms.0 f;
        ends = ends_onto done rest ending.0 l;
        told = w.told.1;
        same = replaced code b done (d ∷ x.instr ∷ rest) rest forms.0 ending.0 w.same
            (pair_replaces (OutOf code b) d x [] rest forms.1.0 forms.1.1.0 (λ s fits. fits) f ending.1.0 ending.1.1
            w.told.0 k.keeps);
      }
