-- A scan keeps the form of its instructions: each is well formed, and a control transfer stands only in the last one
-- of a block.
use Rattle.std.proofs.Common.{◌≡◌, ℕ, zero, suc, ◌-◌, ◌<◌, ◌≤◌, Bool, true, false, List, [], ◌∷◌, ◌++◌, length, map}
use Rattle.std.proofs.Common.{reverse, take, drop, Option, Some, None, All, refl, sym, ◌∙◌, ap, subst, arith}
use Rattle.std.proofs.Common.{append_assoc}
use mathlib.Core.List.{reverse_aux}
use mathlib.Core.Logic.{◌⊎◌, inl, inr}
use Rattle.std.specs.Prelude.{if◌then◌else◌, is_some}
use Rattle.std.proofs.lemmas.Grind.{reverse_onto}
use Rattle.std.proofs.lemmas.List.{length-drop}
use Rattle.std.proofs.lemmas.List.Elements.{All-nil, All-cons, All-head, All-tail, All-append, All-weaker}
use Rattle.po_term.specs.Form.{WellFormed}
use Rattle.po_model.specs.declared.var.Var.{Var}
use Rattle.po_live.specs.declared.parts.LiveList.{LiveList}
use Rattle.po_model.specs.declared.machine.Machine.{Machine}
use Rattle.po_model.specs.Machines.{IsMachine}
use Rattle.po_term.specs.Moves.{PlainInstr}
use Rattle.po_model.specs.Blocks.{instrs_at, PlainBlock, EndsLast}
use Rattle.po_model.specs.Pairs.{PlainPair, WellFormedPair}
use Rattle.po_model.specs.Combined.{Kept, Gone, AsOne, Answer}
use Rattle.po_model.specs.Scanned.{Ahead, Stand, BlockAhead, Scan, Within, Finished, is_dead, onward, ready, settled}
use Rattle.po_model.specs.Scanned.{pair_ready, after_try, instrs_ahead, blocks_ahead, enter, IsAtEnd}
use Rattle.po_slow.specs.declared.block.Standing.{Standing}
use Rattle.po_slow.specs.KeepsEffect.{KeepsEffect}
use Rattle.po_slow.proofs.Places.{ready_nil, none_done, at_end_next}
use Rattle.po_slow.proofs.Sound.{answer_keeps}
use Rattle.po_slow.proofs.Targets.{pair_well_formed}
use Rattle.po_live.specs.Parts.{tells}
use Rattle.po_slow.specs.States.{place_in, scan_by, HasPair, IsAnswer, IsTried, CanAnswer, instrs_in, IsFormedList}
use Rattle.po_slow.specs.States.{IsFormedScan}
use Rattle.po_model.specs.Parts.{ending_of}
use Rattle.po_model.specs.UnitCodes.{IsFormedCode}

-- Lists

ends_tail : (x : PlainInstr) (xs : List PlainInstr) → EndsLast (x ∷ xs) → EndsLast xs
ends_tail x [] h = tt
ends_tail x (y ∷ ys) h = h.1

ends_without : (us : List PlainInstr) (x : PlainInstr) (bs : List PlainInstr) → EndsLast (us ++ x ∷ bs)
    → EndsLast (us ++ bs)
ends_without [] x bs h = ends_tail x bs h
ends_without (a ∷ []) x [] h = tt
ends_without (a ∷ []) x (b ∷ bs) h = (h.0, ends_tail x (b ∷ bs) h.1)
ends_without (a ∷ c ∷ us) x bs h = (h.0, ends_without (c ∷ us) x bs h.1)

ends_replaced : (us : List PlainInstr) (x y : PlainInstr) (bs : List PlainInstr)
    → (ending_of x ≡ None → ending_of y ≡ None) → EndsLast (us ++ x ∷ bs) → EndsLast (us ++ y ∷ bs)
ends_replaced [] x y [] f h = tt
ends_replaced [] x y (b ∷ bs) f h = (f h.0, h.1)
ends_replaced (a ∷ []) x y bs f h = (h.0, ends_replaced [] x y bs f h.1)
ends_replaced (a ∷ c ∷ us) x y bs f h = (h.0, ends_replaced (c ∷ us) x y bs f h.1)

all_front : (P : PlainInstr → Type 0) (us bs : List PlainInstr) → All P (us ++ bs) → All P us
all_front P [] bs h = All-nil P
all_front P (a ∷ us) bs h = All-cons P a us (All-head P a (us ++ bs) h) (all_front P us bs (All-tail P a (us ++ bs) h))

all_back : (P : PlainInstr → Type 0) (us bs : List PlainInstr) → All P (us ++ bs) → All P bs
all_back P [] bs h = h
all_back P (a ∷ us) bs h = all_back P us bs (All-tail P a (us ++ bs) h)

-- an instruction is left out, or stands in the place of another
pub formed_without : (us : List PlainInstr) (x : PlainInstr) (bs : List PlainInstr) → IsFormedList (us ++ x ∷ bs)
    → IsFormedList (us ++ bs)
formed_without us x bs h = record {
  ends_last = ends_without us x bs h.ends_last;
  formed =
      All-append WellFormed us bs (all_front WellFormed us (x ∷ bs) h.formed)
      (All-tail WellFormed x bs (all_back WellFormed us (x ∷ bs) h.formed));
}

formed_replaced : (us : List PlainInstr) (x y : PlainInstr) (bs : List PlainInstr) → WellFormed y
    → (ending_of x ≡ None → ending_of y ≡ None) → IsFormedList (us ++ x ∷ bs) → IsFormedList (us ++ y ∷ bs)
formed_replaced us x y bs w f h = record {
  ends_last = ends_replaced us x y bs f h.ends_last;
  formed =
      All-append WellFormed us (y ∷ bs) (all_front WellFormed us (x ∷ bs) h.formed)
      (All-cons WellFormed y bs w (All-tail WellFormed x bs (all_back WellFormed us (x ∷ bs) h.formed)));
}

formed_at : (us : List PlainInstr) (x : PlainInstr) (bs : List PlainInstr) → IsFormedList (us ++ x ∷ bs) → WellFormed x
formed_at us x bs h = All-head WellFormed x bs (all_back WellFormed us (x ∷ bs) h.formed)

-- the last one that is done, in its place
pub done_last : (d : PlainInstr) (ds xs : List PlainInstr) → reverse (d ∷ ds) ++ xs ≡ reverse ds ++ d ∷ xs
done_last d ds xs = ap (λ l. l ++ xs) (reverse_onto ds d []) ∙ append_assoc (reverse ds) (d ∷ []) xs

-- Within a block

-- what holds of the place of the scan of a block
pub record IsFormedStand (s : Stand) : Type 0 where
  pub here : IsFormedList (instrs_in s)
  pub onward : s.done ≡ [] → s.rest ≡ []

pub formed_onward : (done : List PlainInstr) (rest : List Ahead) (changed : Bool)
    → IsFormedList (reverse done ++ map (λ x. x.instr) rest) → IsFormedStand (onward done rest changed)
formed_onward done [] changed h = record { here = h; onward = λ _. refl }
formed_onward [] (x ∷ xs) changed h =
    go (is_dead x.live x.instr) (formed_onward [] xs true (formed_without [] x.instr (map (λ x. x.instr) xs) h))
    (formed_onward (x.instr ∷ []) xs changed h)
  where
    go : (dead : Bool) → IsFormedStand (onward [] xs true) → IsFormedStand (onward (x.instr ∷ []) xs changed)
        → IsFormedStand (if dead then onward [] xs true else onward (x.instr ∷ []) xs changed)
    go true a b = a
    go false a b = b
formed_onward (d ∷ ds) (x ∷ xs) changed h =
    go (is_dead x.live x.instr)
    (formed_onward (d ∷ ds) xs true (formed_without (reverse (d ∷ ds)) x.instr (map (λ x. x.instr) xs) h))
  where
    go : (dead : Bool) → IsFormedStand (onward (d ∷ ds) xs true)
        → IsFormedStand
        (if dead then onward (d ∷ ds) xs true else record { done = d ∷ ds; rest = x ∷ xs; changed = changed })
    go true a = a
    go false a = record { here = h; onward = λ e. absurd (cc) }

pub formed_settled : (o : Answer) (done : List PlainInstr) (rest : List Ahead) (changed : Bool)
    → IsFormedList (reverse done ++ map (λ x. x.instr) rest) → CanAnswer (ready done rest) o
    → IsFormedStand (settled o done rest changed)
formed_settled o [] rest changed h can = absurd can
formed_settled o (d ∷ ds) [] changed h can = absurd can
formed_settled Kept (d ∷ ds) (x ∷ xs) changed h can =
    formed_onward (x.instr ∷ d ∷ ds) xs changed
    (subst IsFormedList (sym (done_last x.instr (d ∷ ds) (map (λ x. x.instr) xs))) h)
formed_settled Gone (d ∷ ds) (x ∷ xs) changed h can =
    let xs' = map (λ x. x.instr) xs in
    let one = formed_without (reverse ds) d (x.instr ∷ xs') (subst IsFormedList (done_last d ds (x.instr ∷ xs')) h) in
    formed_onward ds xs true (formed_without (reverse ds) x.instr xs' one)
formed_settled (AsOne y) (d ∷ ds) (x ∷ xs) changed h can =
    let xs' = map (λ x. x.instr) xs in
    let one = formed_without (reverse ds) d (x.instr ∷ xs') (subst IsFormedList (done_last d ds (x.instr ∷ xs')) h) in
    formed_onward ds (record { instr = y; live = x.live } ∷ xs) true
    (formed_replaced (reverse ds) x.instr y xs' can.0 can.1 one)

pub formed_after_try : (o : Answer) (s : Scan) → IsFormedScan s → CanAnswer (pair_ready s) o
    → IsFormedScan (after_try o s)
formed_after_try o (Within s) f can =
    let t = formed_settled o s.stand.done s.stand.rest s.stand.changed f.here can in
    record { here = t.here; passed = f.passed; coming = f.coming; onward = t.onward }
formed_after_try o (Finished code) f can = absurd can

abbrev IsFormedPair : Option PlainPair → Type 0
IsFormedPair None = ⊥
IsFormedPair (Some p) = WellFormedPair p

-- the pair that is ready is well formed
pub formed_ready : (s : Scan) (p : PlainPair) → IsFormedScan s → pair_ready s ≡ Some p → WellFormedPair p
formed_ready (Within s) p f e = go s.stand.done s.stand.rest f.here e
  where
    go : (done : List PlainInstr) (rest : List Ahead) → IsFormedList (reverse done ++ map (λ x. x.instr) rest)
        → ready done rest ≡ Some p → WellFormedPair p
    go [] rest h e = absurd (cc)
    go (d ∷ ds) [] h e = absurd (cc)
    go (d ∷ ds) (x ∷ xs) h e =
        let a = formed_at (reverse ds) d (x.instr ∷ map (λ x. x.instr) xs)
        (subst IsFormedList (done_last d ds (x.instr ∷ map (λ x. x.instr) xs)) h) in
        let b = formed_at (reverse (d ∷ ds)) x.instr (map (λ x. x.instr) xs) h in
        subst IsFormedPair e (pair_well_formed d x a b)
formed_ready (Finished code) p f e = absurd (cc)

-- where a pair may be answered for, one is ready
none_at_end : (s : Scan) → IsAtEnd s → pair_ready s ≡ None
none_at_end (Within s) h = ap (λ xs. ready s.stand.done xs) h ∙ ready_nil s.stand.done
none_at_end (Finished code) h = absurd h

cannot : (s : Scan) (o : Answer) → CanAnswer (pair_ready s) o → pair_ready s ≡ None → ⊥
cannot s o can h = subst (λ r. CanAnswer r o) h can

pub less_or_not : (m n : ℕ) → (m < n) ⊎ (n ≤ m)
less_or_not m zero = inr (omega arith)
less_or_not zero (suc n) = inl (omega arith)
less_or_not (suc m) (suc n) = elim (less_or_not m n) [ inl h ↦ inl (omega arith) | inr h ↦ inr (omega arith) ]

pub has_pair : (code : List PlainBlock) (lives : LiveList) (b : ℕ) (at : Standing) (o : Answer)
    → CanAnswer (pair_ready (scan_by code lives b at)) o → HasPair code b at
has_pair code lives b at o can =
    let block = go_block (drop b code) (sym (length-drop b code)) can in
    record {
      block = block;
      done =
          elim (less_or_not 0 at.done) [
            | inl h ↦ h
            | inr h ↦ absurd (cannot (scan_by code lives b at) o can (none_done code lives b at block (omega arith)))
          ];
      next =
          elim (less_or_not at.next (length (instrs_at code b))) [
            | inl h ↦ h
            | inr h ↦
                absurd (cannot (scan_by code lives b at) o can
                (none_at_end (scan_by code lives b at) (at_end_next code lives b at block h)))
          ];
    }
  where
    go_block : (l : List PlainBlock) → length code - b ≡ length l
        → CanAnswer (pair_ready (place_in (tells lives) b at.done at.next at.changed (reverse (take b code)) l)) o
        → b < length code
    go_block [] e h = absurd h
    go_block (x ∷ xs) e h = omega arith

none_is : {A : Type 0} (o : Option A) → is_some o ≡ false → o ≡ None
none_is None h = refl
none_is (Some x) h = absurd (cc)

-- the answer of slow combination may be given
pub can_answer : (m : Machine) (s : Scan) (o : Answer) → IsMachine m → IsFormedScan s → IsAnswer m (pair_ready s) o
    → CanAnswer (pair_ready s) o
can_answer m s o machine f a = go (pair_ready s) refl a
  where
    by_answer : (p : PlainPair) (o : Answer) → KeepsEffect m p o → CanAnswer (Some p) o
    by_answer p Kept k = tt
    by_answer p Gone k = tt
    by_answer p (AsOne j) k = (k.formed machine, λ e. none_is (ending_of j) (k.control (ap is_some e)))

    go : (r : Option PlainPair) → pair_ready s ≡ r → IsAnswer m r o → CanAnswer r o
    go None e a = absurd a
    go (Some p) e a = by_answer p o (answer_keeps m p o a (formed_ready s p f e))

-- a pair that is tried keeps the form
pub formed_tried : (m : Machine) (s t : Scan) → IsMachine m → IsFormedScan s → IsTried m s t → IsFormedScan t
formed_tried m s t machine f tried =
    subst IsFormedScan (sym tried.goes_on)
    (formed_after_try tried.outcome s f (can_answer m s tried.outcome machine f tried.is_answer))

-- From block to block

pub all_reverse : {X : Type 0} (P : X → Type 0) (xs ys : List X) → All P xs → All P ys → All P (reverse_aux xs ys)
all_reverse P [] ys h i = i
all_reverse P (x ∷ xs) ys h i = all_reverse P xs (x ∷ ys) (All-tail P x xs h) (All-cons P x ys (All-head P x xs h) i)

pub formed_code : (code : List PlainBlock) → All (λ b. IsFormedList b.instrs) code → IsFormedCode code
formed_code code h = record {
  ends_last = All-weaker (λ b. IsFormedList b.instrs) (λ b. EndsLast b.instrs) (λ b f. f.ends_last) code h;
  formed = All-weaker (λ b. IsFormedList b.instrs) (λ b. All WellFormed b.instrs) (λ b f. f.formed) code h;
}

pub formed_blocks : (code : List PlainBlock) → IsFormedCode code → All (λ b. IsFormedList b.instrs) code
formed_blocks code h k d lt = record { ends_last = h.ends_last k d lt; formed = h.formed k d lt }

pub formed_enter : (passed : List PlainBlock) (coming : List BlockAhead) (changed : Bool)
    → All (λ b. IsFormedList b.instrs) passed → All (λ b. IsFormedList (map (λ x. x.instr) b.instrs)) coming
    → IsFormedScan (enter passed coming changed)
formed_enter passed [] changed p c =
    formed_code (reverse passed)
    (all_reverse (λ b. IsFormedList b.instrs) passed [] p (All-nil (λ b. IsFormedList b.instrs)))
formed_enter passed (b ∷ bs) changed p c =
    let t = formed_onward [] b.instrs changed (All-head (λ b. IsFormedList (map (λ x. x.instr) b.instrs)) b bs c) in
    record {
      here = t.here;
      passed = p;
      coming = All-tail (λ b. IsFormedList (map (λ x. x.instr) b.instrs)) b bs c;
      onward = t.onward;
    }

-- the instructions to come are those of the code
pub ahead_instrs : (live : ℕ → Var → Bool) (i : ℕ) (xs : List PlainInstr)
    → map (λ x. x.instr) (instrs_ahead live i xs) ≡ xs
ahead_instrs live i [] = refl
ahead_instrs live i (x ∷ xs) = ap (λ l. x ∷ l) (ahead_instrs live (suc i) xs)

pub formed_ahead : (live : ℕ → ℕ → Var → Bool) (b : ℕ) (code : List PlainBlock) → All (λ b. IsFormedList b.instrs) code
    → All (λ b. IsFormedList (map (λ x. x.instr) b.instrs)) (blocks_ahead live b code)
formed_ahead live b [] h = All-nil (λ b. IsFormedList (map (λ x. x.instr) b.instrs))
formed_ahead live b (x ∷ xs) h =
    All-cons (λ b. IsFormedList (map (λ x. x.instr) b.instrs))
    (record { label = x.label; instrs = instrs_ahead (live b) 0 x.instrs }) (blocks_ahead live (suc b) xs)
    (subst IsFormedList (sym (ahead_instrs (live b) 0 x.instrs)) (All-head (λ b. IsFormedList b.instrs) x xs h))
    (formed_ahead live (suc b) xs (All-tail (λ b. IsFormedList b.instrs) x xs h))
