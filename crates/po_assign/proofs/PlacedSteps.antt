-- The placed instructions of a block do what its instructions do, as far as it is live behind them.
use Rattle.std.proofs.Common.{◌≡◌, ℕ, suc, Bool, true, false, List, [], ◌∷◌, ◌++◌, map, arith, refl, sym, ◌∙◌, ap}
use Rattle.std.proofs.Common.{subst, inl, inr}
use Rattle.std.specs.Prelude.{if◌then◌else◌, Contains, All, Option, Some, None, ⊤}
use Rattle.std.specs.Option.{option_map}
use Rattle.po_term.specs.declared.term.Reg.{Reg as Register}
use Rattle.po_term.specs.declared.term.Reg.TheVariants.{Virt, Fp, Rv, Arg}
use Rattle.po_term.specs.declared.term.Sym.{Sym}
use Rattle.po_term.specs.Terms.{Place, InReg, AtSym, State}
use Rattle.po_term.specs.Moves.{Ending, PlainInstr}
use Rattle.po_term.specs.Form.{WellFormed}
use Rattle.po_model.specs.declared.machine.Machine.{Machine}
use Rattle.po_model.specs.declared.var.Var.{Var}
use Rattle.po_model.specs.declared.var.Var.TheVariants.{Reg, Cc}
use Rattle.po_model.specs.Blocks.{PlainBlock, block_ending, EndsLast}
use Rattle.po_model.specs.Parts.{cc_of, ending_of}
use Rattle.po_model.specs.Effect.{Control, Next, Jump, Called, Returned, Effected, new_cc, after, goes, effect}
use Rattle.po_model.specs.Fit.{fit}
use Rattle.po_model.specs.LiveAfter.{reads, sets, IsLive}
use Rattle.po_model.specs.Run.{Doing, and_on, in_turn}
use Rattle.po_model.specs.Placed.{place_of, placed_instr, unless_clobbered, found_clobbers, placed_from}
use Rattle.po_model.specs.UnitCodes.{written, ReadsBehind}
use Rattle.po_assign.proofs.Boundary.{any_reads, AreBehind, live_held}
use Rattle.po_assign.proofs.PlacedReads.{Holds, HoldsWhere, ApartFrom, symbol_stays, memory_placed, cc_placed}
use Rattle.po_assign.proofs.PlacedReads.{goes_placed, word_placed}
use Rattle.po_assign.proofs.Controls.{passes, EndsOnce, ends_once, register_unset, cc_unset, Comes, comes_of}

module _ (m : Machine) (at : ℕ → ℕ) (code : List PlainBlock) where
  -- a state of the code and one of the placed code agree behind a transfer of control: on what it leaves as it is, as
  -- far as it is live
  pub record Agree (c : Control) (b : ℕ) (rest : List PlainInstr) (s t : State) : Type 0 where
    pub memory : (a : ℕ) → s.memory a ≡ t.memory a
    pub symbols : (y : Sym) → s.place (AtSym y) ≡ t.place (AtSym y)
    pub live : (v : Var) → passes c v ≡ true → IsLive code v (record { block = b; rest = rest }) → Holds at s t v

  -- no instruction of a block writes to the place of a register that was written and is still to be read, but that
  -- register
  abbrev pub PlacesApart : List ℕ → List PlainInstr → Type 0
  PlacesApart set [] = ⊤
  PlacesApart set (x ∷ xs) = ((v : ℕ) → Contains (set ++ written x) v → any_reads xs v ≡ true → ApartFrom at (Virt v)
      (written x)) × PlacesApart (set ++ written x) xs

  -- no entry of an instruction of a block empties a cc that is live behind it
  abbrev pub KeepCc : ℕ → (ℕ → Bool) → ℕ → List PlainInstr → Type 0
  KeepCc b live i [] = ⊤
  KeepCc b live i (x ∷ xs) = (IsLive code Cc (record { block = b; rest = xs }) → found_clobbers m (fit m (live i) x)
      ≡ false) × KeepCc b live (suc i) xs

  -- live behind an instruction that doesn't set it: live before it
  live_unset : (v : Var) (b : ℕ) (x : PlainInstr) (xs : List PlainInstr) → sets x v ≡ false
      → IsLive code v (record { block = b; rest = xs }) → IsLive code v (record { block = b; rest = x ∷ xs })
  live_unset v b x xs e (inl f) = inl f
  live_unset v b x xs e (inr r) = inr (record { block = b; rest = xs } ∷ r.0, (e, (refl, refl), r.1))

  cc_kept : (clobbers : Bool) (o p : Option (ℕ × ℕ)) → clobbers ≡ false → o ≡ p → o ≡ (if clobbers then None else p)
  cc_kept clobbers o p e f = rw e f

  -- one instruction, of which control went to c
  module _ (b : ℕ) (x : PlainInstr) (xs : List PlainInstr) (once : EndsOnce x) (clobbers : Bool) (s t : State)
      (c : Control) (to : goes s (ending_of x) ≡ Some c)
      (apart : (r : Register) → IsLive code (Reg r) (record { block = b; rest = xs }) → ApartFrom at r (written x))
      (keeps : IsLive code Cc (record { block = b; rest = xs }) → clobbers ≡ false) (a : Agree Next b (x ∷ xs) s t)
    where
      -- what an instruction reads is live before it
      all_read : HoldsWhere at s t (reads x)
      all_read v e = a.live v refl (inr ([], e))

      holds_after : (v : Var) → passes c v ≡ true → IsLive code v (record { block = b; rest = xs })
          → Holds at (after s x) (unless_clobbered clobbers (after t (placed_instr at x))) v
      holds_after (Reg r) p l =
          word_placed at s t a.memory a.symbols r x (s.place (InReg r)) (t.place (InReg (place_of at r))) all_read
          (apart r l)
          (λ n. a.live (Reg r) refl (live_unset (Reg r) b x xs (register_unset s c r x once to p n) l))
      holds_after Cc p l =
          cc_kept clobbers (new_cc s (cc_of x)) (new_cc t (cc_of (placed_instr at x))) (keeps l)
          (cc_placed at s t a.memory a.symbols x all_read
          (λ n. a.live Cc refl (live_unset Cc b x xs (cc_unset s c x once to p n) l)))

      symbol_after : (y : Sym) → (after s x).place (AtSym y) ≡ (after t (placed_instr at x)).place (AtSym y)
      symbol_after y = rw (symbol_stays y x, symbol_stays y (placed_instr at x)) (a.symbols y)

      -- behind the instruction they agree on what is live there
      agree_after : Agree c b xs (after s x) (unless_clobbered clobbers (after t (placed_instr at x)))
      agree_after = record {
        memory = memory_placed at s t a.memory a.symbols x all_read;
        symbols = symbol_after;
        live = holds_after;
      }

  -- neither has an effect, or both have one: control goes to one place, from a block with this ending, and the states
  -- agree behind it
  abbrev pub Ended : ℕ → Option (Ending ℕ Place Sym) → Option Effected → Option Effected → Type 0
  Ended b e None None = ⊤
  Ended b e None (Some f) = ⊥
  Ended b e (Some d) None = ⊥
  Ended b e (Some d) (Some f) = (d.to ≡ f.to) × Comes code e d.to × Agree d.to b [] d.state f.state

  module _ (b : ℕ) (e : Option (Ending ℕ Place Sym)) (s' t' : State) (clobbers : Bool) where
    -- what comes of an instruction, by where its control goes
    abbrev done_first : Option Control → Option Effected
    done_first o = option_map (λ c. record { state = s'; to = c }) o

    abbrev done_placed : Option Control → Option Effected
    done_placed p = option_map (λ (d : Effected). record { state = unless_clobbered clobbers d.state; to = d.to })
        (option_map (λ c. record { state = t'; to = c }) p)

    -- where both go on to the next instruction
    on_next : (o p : Option Control) (go go' : Doing) → o ≡ Some Next → p ≡ Some Next
        → Ended b e (go s') (go' (unless_clobbered clobbers t')) → Ended b e (and_on go (done_first o))
        (and_on go' (done_placed p))
    on_next o p go go' i j h = rw (i, j) h

    -- the last instruction
    last_to : (c : Control) → Comes code e c → Agree c b [] s' (unless_clobbered clobbers t')
        → Ended b e (and_on (in_turn []) (done_first (Some c))) (and_on (in_turn []) (done_placed (Some c)))
    last_to Next k a = (refl, k, a)
    last_to (Jump l) k a = (refl, k, a)
    last_to (Called f ws) k a = (refl, k, a)
    last_to (Returned w) k a = (refl, k, a)

    last_ended : (o p : Option Control) → o ≡ p → ((c : Control) → o ≡ Some c → Comes code e c
        × Agree c b [] s' (unless_clobbered clobbers t')) → Ended b e (and_on (in_turn []) (done_first o))
        (and_on (in_turn []) (done_placed p))
    last_ended None None i h = tt
    last_ended None (Some d) i h = absurd (cc)
    last_ended (Some c) None i h = absurd (cc)
    last_ended (Some c) (Some d) i h =
        let same : c ≡ d = (cc) in
        let both = h c refl in
        subst (λ d. Ended b e (and_on (in_turn []) (done_first (Some c)))
        (and_on (in_turn []) (done_placed (Some d)))) same (last_to c both.0 both.1)

  goes_next : (s : State) (x : PlainInstr) → ending_of x ≡ None → goes s (ending_of x) ≡ Some Next
  goes_next s x e = ap (λ o. goes s o) e

  -- what is live behind an instruction has a place of its own
  live_apart : AreBehind code → (b : ℕ) (set : List ℕ) (x : PlainInstr) (xs : List PlainInstr)
      → ReadsBehind (set ++ written x) xs
      → ((v : ℕ) → Contains (set ++ written x) v → any_reads xs v ≡ true → ApartFrom at (Virt v) (written x))
      → (r : Register) → IsLive code (Reg r) (record { block = b; rest = xs }) → ApartFrom at r (written x)
  live_apart behind b set x xs h apart (Virt v) l = let held = live_held code behind v b (set ++ written x) xs h l in
      apart v held.0 held.1
  live_apart behind b set x xs h apart Fp l = tt
  live_apart behind b set x xs h apart Rv l = tt
  live_apart behind b set x xs h apart (Arg k) l = tt

  -- instructions one after another, from agreeing states
  pub block_ended : AreBehind code → (b : ℕ) (live : ℕ → Bool) (xs : List PlainInstr) (i : ℕ) (set : List ℕ)
      (s t : State)
      → EndsLast xs → All WellFormed xs → ReadsBehind set xs → PlacesApart set xs → KeepCc b live i xs
      → Agree Next b xs s t
      → Ended b (block_ending xs) (in_turn (map effect xs) s) (in_turn (placed_from m at live i xs) t)
  block_ended behind b live [] i set s t last formed reading apart keeps a = (refl, refl, a)
  block_ended behind b live (x ∷ []) i set s t last formed reading apart keeps a =
      let clobbers = found_clobbers m (fit m (live i) x) in
      let once = ends_once x (formed 0 x (omega arith)).pairs in
      last_ended b (ending_of x) (after s x) (after t (placed_instr at x)) clobbers (goes s (ending_of x))
      (goes t (ending_of (placed_instr at x)))
      (goes_placed at s t a.memory a.symbols x (λ v e. a.live v refl (inr ([], e))))
      (λ c to. (
        comes_of code s (ending_of x) c to,
        agree_after b x [] once clobbers s t c to (live_apart behind b set x [] reading.1 apart.0) keeps.0 a,
      ))
  block_ended behind b live (x ∷ y ∷ ys) i set s t last formed reading apart keeps a =
      let clobbers = found_clobbers m (fit m (live i) x) in
      let once = ends_once x (formed 0 x (omega arith)).pairs in
      let to : goes s (ending_of x) ≡ Some Next = goes_next s x last.0 in
      let same : goes s (ending_of x) ≡ goes t (ending_of (placed_instr at x)) = goes_placed at s t a.memory a.symbols
      x (λ v e. a.live v refl (inr ([], e))) in
      on_next b (block_ending (y ∷ ys)) (after s x) (after t (placed_instr at x)) clobbers (goes s (ending_of x))
      (goes t (ending_of (placed_instr at x)))
      (in_turn (map effect (y ∷ ys))) (in_turn (placed_from m at live (suc i) (y ∷ ys))) to (sym same ∙ to)
      (block_ended behind b live (y ∷ ys) (suc i) (set ++ written x) (after s x)
      (unless_clobbered clobbers (after t (placed_instr at x)))
      last.1 (λ k d l. formed (suc k) d (omega arith)) reading.1 apart.1 keeps.1
      (agree_after b x (y ∷ ys) once clobbers s t Next to (live_apart behind b set x (y ∷ ys) reading.1 apart.0)
      keeps.0 a))
