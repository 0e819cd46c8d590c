-- Within a pass over a code, what is live in the code that is made was told at its start.
use Rattle.std.proofs.Common.{◌≡◌, ℕ, zero, suc, ◌+◌, ◌<◌, Bool, true, List, [], ◌∷◌, length, drop, refl, sym, ap}
use Rattle.std.proofs.Common.{subst, arith}
use Rattle.std.specs.Prelude.{Option, Some, None, is_some, IsSome, IsTrue, ◌↔◌, All, ⊤}
use Rattle.std.proofs.lemmas.List.Elements.{All-head, All-tail}
use mathlib.Core.Logic.{inl, inr}
use mathlib.Core.List.{reverse_aux}
use Rattle.po_term.specs.declared.term.Reg.{Reg as Register}
use Rattle.po_term.specs.declared.term.Sym.{Sym}
use Rattle.po_term.specs.Terms.{Place}
use Rattle.po_term.specs.Kinds.{words}
use Rattle.po_term.specs.Form.{WellFormed}
use Rattle.po_model.specs.declared.machine.Machine.{Machine}
use Rattle.po_model.specs.declared.var.Var.{Var}
use Rattle.po_model.specs.declared.var.Var.TheVariants.{Cc}
use Rattle.po_model.specs.Blocks.{PlainBlock, block_ending, EndsLast, instrs_at}
use Rattle.po_model.specs.Parts.{code_leaves, ending_of}
use Rattle.po_model.specs.LiveAfter.{IsLive, LiveAfter}
use Rattle.po_model.specs.Fit.{Found, fit}
use Rattle.po_model.specs.Fitted.{instr_at}
use Rattle.po_model.specs.Joined.{Joint, NotJoined, NothingLeft, joined}
use Rattle.po_model.specs.Joined as joint
use Rattle.po_model.specs.Machines.{IsMachine}
use Rattle.po_model.specs.Pairs.{is_live_after, WellFormedPair}
use Rattle.po_model.specs.Combined.{Gone, AsOne, if_fit, recognised, combination, Answer}
use Rattle.po_model.specs.Scanned.{Ahead, is_dead, pair_with, instrs_ahead}
use Rattle.po_subst.proofs.Alike.{none_of}
use Rattle.po_slow.specs.KeepsEffect.{InPlace, KeepsEffect}
use Rattle.po_slow.proofs.Sound.{answer_keeps}
use Rattle.po_slow.proofs.LivenessEndings.{NoFurther, no_further_self, no_further_than, combination_less}
use Rattle.po_slow.proofs.PairWith.{pair_formed, pair_tells}
use Rattle.po_slow.proofs.Blockwise.{instrs_in, ahead_instrs}
use Rattle.po_slow.proofs.LivenessFlow.{Flows, NoMore, flows_past, no_more_before, flows_two, flows_before, dead_unset}
use Rattle.po_slow.proofs.LivenessFlow.{dead_ending, ReadBehind, live_flows, live_where}
use Rattle.po_term.specs.Moves.{PlainInstr}

-- Transfers of control in a block whose instructions change

ends_before : (d x : PlainInstr) (xs ys : List PlainInstr) → EndsLast (d ∷ x ∷ xs) → EndsLast ys
    → NoFurther (block_ending ys) (block_ending (x ∷ xs))
    → EndsLast (d ∷ ys) × NoFurther (block_ending (d ∷ ys)) (block_ending (d ∷ x ∷ xs))
ends_before d x xs [] e l n = (tt, rw e.0 n)
ends_before d x xs (y ∷ ys) e l n = ((e.0, l), n)

-- an instruction without one is left out
ends_dropped : (x : PlainInstr) (xs : List PlainInstr) → ending_of x ≡ None → EndsLast (x ∷ xs)
    → EndsLast xs × NoFurther (block_ending xs) (block_ending (x ∷ xs))
ends_dropped x [] n e = (tt, rw n (no_further_self None))
ends_dropped x (y ∷ ys) n e = (e.1, no_further_self (block_ending (y ∷ ys)))

-- two are left out, or one stands in their place
ends_gone : (d x : PlainInstr) (xs : List PlainInstr) → EndsLast (d ∷ x ∷ xs) → NoFurther None (ending_of x)
    → EndsLast xs × NoFurther (block_ending xs) (block_ending (d ∷ x ∷ xs))
ends_gone d x [] e n = (tt, n)
ends_gone d x (y ∷ ys) e n = (e.1.1, no_further_self (block_ending (y ∷ ys)))

ends_one : (d x y : PlainInstr) (xs : List PlainInstr) → EndsLast (d ∷ x ∷ xs) → NoFurther (ending_of y) (ending_of x)
    → (ending_of x ≡ None → ending_of y ≡ None)
    → EndsLast (y ∷ xs) × NoFurther (block_ending (y ∷ xs)) (block_ending (d ∷ x ∷ xs))
ends_one d x y [] e n h = (tt, n)
ends_one d x y (z ∷ zs) e n h = ((h e.1.0, e.1.1), no_further_self (block_ending (z ∷ zs)))

-- each instruction of a code fits an entry with what is live after it, however that is told
abbrev pub AllFit : Machine → List PlainBlock → Type 0
AllFit m code =
    (b i : ℕ) (c : Bool) → i < length (instrs_at code b) → (IsTrue c ↔ LiveAfter code b i Cc)
    → IsSome (fit m c (instr_at i (instrs_at code b)))

-- what stands in the place of a pair fits an entry
recognised_fits : (m : Machine) (cc_live : Bool) (x : Joint ℕ Place Register Sym) (y : PlainInstr)
    → (recognised words code_leaves m cc_live x).got ≡ AsOne y → IsSome (fit m cc_live y)
recognised_fits m cc_live NotJoined y e = absurd (cc)
recognised_fits m cc_live NothingLeft y e = absurd (cc)
recognised_fits m cc_live (joint.AsOne ms) y e = go (fit m cc_live ms) refl e
  where
    go : (o : Option (ℕ × List (Found ℕ Register Sym))) → fit m cc_live ms ≡ o → if_fit ms o ≡ AsOne y
        → IsSome (fit m cc_live y)
    go None i k = absurd (cc)
    go (Some found) i k =
        let same : ms ≡ y = (cc) in subst (λ (ns : PlainInstr). IsSome (fit m cc_live ns)) same (ap (λ o. is_some o) i)

module _ (m : Machine) (code : List PlainBlock) (b : ℕ) where
  abbrev pub Out : Var → Type 0
  Out v = ReadBehind code b v

  -- an instruction before these ones: what is live behind it was told
  pub record Stays (x : Ahead) (xs : List Ahead) : Type 0 where
    pub formed : WellFormed x.instr
    pub told : (v : Var) → Flows Out (instrs_in xs) v → x.live v ≡ true
    pub fits : AllFit m code → IsSome (fit m (x.live Cc) x.instr)

  abbrev pub AllStay : List Ahead → Type 0
  AllStay [] = ⊤
  AllStay (x ∷ xs) = Stays x xs × AllStay xs

  -- ys stand in the place of xs
  record Replaces (ys xs : List Ahead) : Type 0 where
    stay : AllStay ys
    no_more : NoMore Out (instrs_in ys) (instrs_in xs)
    last : EndsLast (instrs_in ys)
    ending : NoFurther (block_ending (instrs_in ys)) (block_ending (instrs_in xs))

  replaces_before : (d x : Ahead) (xs ys : List Ahead) → AllStay (d ∷ x ∷ xs) → EndsLast (instrs_in (d ∷ x ∷ xs))
      → Replaces ys (x ∷ xs) → Replaces (d ∷ ys) (d ∷ x ∷ xs)
  replaces_before d x xs ys s e h =
      let ends = ends_before d.instr x.instr (instrs_in xs) (instrs_in ys) e h.last h.ending in
      record {
        stay = (record { formed = s.0.formed; told = λ v f. s.0.told v (h.no_more v f); fits = s.0.fits }, h.stay);
        no_more = no_more_before Out d.instr (instrs_in (x ∷ xs)) (instrs_in ys) h.no_more;
        last = ends.0;
        ending = ends.1;
      }

  -- the same behind what is done
  replaces_behind : (ds : List Ahead) (x : Ahead) (xs ys : List Ahead) → AllStay (reverse_aux ds (x ∷ xs))
      → EndsLast (instrs_in (reverse_aux ds (x ∷ xs)))
      → (AllStay (x ∷ xs) → EndsLast (instrs_in (x ∷ xs)) → Replaces ys (x ∷ xs))
      → Replaces (reverse_aux ds ys) (reverse_aux ds (x ∷ xs))
  replaces_behind [] x xs ys s e h = h s e
  replaces_behind (d ∷ ds) x xs ys s e h =
      replaces_behind ds d (x ∷ xs) (d ∷ ys) s e (λ t f. replaces_before d x xs ys t f (h t.1 f.1))

  -- the whole block as it stands
  pub record Current (xs : List Ahead) : Type 0 where
    pub stay : AllStay xs
    pub no_more : NoMore Out (instrs_in xs) (instrs_at code b)
    pub last : EndsLast (instrs_in xs)
    pub ending : NoFurther (block_ending (instrs_in xs)) (block_ending (instrs_at code b))

  replaced : (ds : List Ahead) (x : Ahead) (xs ys : List Ahead) → Current (reverse_aux ds (x ∷ xs))
      → (AllStay (x ∷ xs) → EndsLast (instrs_in (x ∷ xs)) → Replaces ys (x ∷ xs)) → Current (reverse_aux ds ys)
  replaced ds x xs ys c h =
      let r = replaces_behind ds x xs ys c.stay c.last h in
      record {
        stay = r.stay;
        no_more = λ v f. c.no_more v (r.no_more v f);
        last = r.last;
        ending =
            no_further_than (block_ending (instrs_in (reverse_aux ds ys)))
            (block_ending (instrs_in (reverse_aux ds (x ∷ xs)))) (block_ending (instrs_at code b)) r.ending
            c.ending;
      }

  -- what is told of the instructions that are to come is live behind them
  abbrev pub Exact : List Ahead → Type 0
  Exact [] = ⊤
  Exact (x ∷ xs) = ((v : Var) → x.live v ≡ true → Flows Out (instrs_in xs) v) × Exact xs

  -- where the scan of the block stands: `told` are the instructions done, the last first, with what was told of each
  pub record Standing (done : List PlainInstr) (rest : List Ahead) : Type 0 where
    pub told : List Ahead
    pub is_done : instrs_in told ≡ done
    pub current : Current (reverse_aux told rest)
    pub exact : Exact rest

  -- the pair that is ready is well formed
  stay_behind : (ds xs : List Ahead) → AllStay (reverse_aux ds xs) → AllStay xs
  stay_behind [] xs s = s
  stay_behind (d ∷ ds) xs s = (stay_behind ds (d ∷ xs) s).1

  pub standing_formed : (d : PlainInstr) (done : List PlainInstr) (x : Ahead) (xs : List Ahead)
      → Standing (d ∷ done) (x ∷ xs)
      → WellFormedPair (pair_with d x)
  standing_formed d done x xs h = go h.told h.is_done h.current.stay
    where
      go : (told : List Ahead) → instrs_in told ≡ d ∷ done → AllStay (reverse_aux told (x ∷ xs))
          → WellFormedPair (pair_with d x)
      go [] e s = absurd (cc)
      go (t ∷ ts) e s =
          let first : t.instr ≡ d = (cc) in
          let two = stay_behind ts (t ∷ x ∷ xs) s in
          subst (λ (a : PlainInstr). WellFormedPair (pair_with a x)) first
          (pair_formed t.instr x two.0.formed two.1.0.formed)

  -- The steps

  dropped : (x : Ahead) (xs : List Ahead) → is_dead x.live x.instr ≡ true → AllStay (x ∷ xs)
      → EndsLast (instrs_in (x ∷ xs)) → Replaces xs (x ∷ xs)
  dropped x xs dead s e =
      let ends = ends_dropped x.instr (instrs_in xs) (dead_ending x.live x.instr dead) e in
      record {
        stay = s.1;
        no_more = λ v f. flows_past Out x.instr (instrs_in xs) v (dead_unset x.live x.instr v dead (s.0.told v f)) f;
        last = ends.0;
        ending = ends.1;
      }

  pub standing_dropped : (done : List PlainInstr) (x : Ahead) (xs : List Ahead) → Standing done (x ∷ xs)
      → is_dead x.live x.instr ≡ true → Standing done xs
  standing_dropped done x xs h dead =
      record {
        told = h.told;
        is_done = h.is_done;
        current = replaced h.told x xs xs h.current (dropped x xs dead);
        exact = h.exact.1;
      }

  pub standing_taken : (done : List PlainInstr) (x : Ahead) (xs : List Ahead) → Standing done (x ∷ xs)
      → Standing (x.instr ∷ done) xs
  standing_taken done x xs h =
      record { told = x ∷ h.told; is_done = ap (λ ys. x.instr ∷ ys) h.is_done; current = h.current; exact = h.exact.1 }

  module _ (allowed : IsMachine m) (t x : Ahead) (xs : List Ahead) (s : AllStay (t ∷ x ∷ xs))
      (e : EndsLast (instrs_in (t ∷ x ∷ xs))) (exact : (v : Var) → x.live v ≡ true → Flows Out (instrs_in xs) v) where
    -- what holds of the answer for the pair
    kept : (answer : Answer) → combination m (pair_with t.instr x) ≡ answer
        → KeepsEffect m (pair_with t.instr x) answer
    kept answer i = answer_keeps m (pair_with t.instr x) answer (sym i) (pair_formed t.instr x s.0.formed s.1.0.formed)

    less : (answer : Answer) → combination m (pair_with t.instr x) ≡ answer
        → InPlace answer (λ j. NoFurther (ending_of j) (ending_of x.instr))
    less answer i =
        subst (λ (o : Answer). InPlace o (λ j. NoFurther (ending_of j) (ending_of x.instr))) i
        (combination_less m (pair_with t.instr x) (pair_formed t.instr x s.0.formed s.1.0.formed))

    gone : combination m (pair_with t.instr x) ≡ Gone → Replaces xs (t ∷ x ∷ xs)
    gone i =
        let ends = ends_gone t.instr x.instr (instrs_in xs) e (less Gone i) in
        record {
          stay = s.1.1;
          no_more =
              λ v f. flows_two Out t.instr x.instr (instrs_in xs) x.live v (exact v)
              ((kept Gone i).nothing_live x.live (pair_tells t.instr x) v (s.1.0.told v f));
          last = ends.0;
          ending = ends.1;
        }

    -- one that has no transfer of control where the second has none
    none_where : (y : PlainInstr) → combination m (pair_with t.instr x) ≡ AsOne y → ending_of x.instr ≡ None
        → ending_of y ≡ None
    none_where y i n = none_of (ending_of y) ((kept (AsOne y) i).control (ap (λ o. is_some o) n))

    one_flows : (y : PlainInstr) → combination m (pair_with t.instr x) ≡ AsOne y
        → NoMore Out (y ∷ instrs_in xs) (t.instr ∷ x.instr ∷ instrs_in xs)
    one_flows y i v (inl f) = inl f
    one_flows y i v (inr f) =
        flows_two Out t.instr x.instr (instrs_in xs) x.live v (exact v)
        ((kept (AsOne y) i).nothing_live x.live (pair_tells t.instr x) v
        (flows_before Out y (instrs_in xs) x.live v (s.1.0.told v) f))

    one : (y : PlainInstr) → combination m (pair_with t.instr x) ≡ AsOne y
        → Replaces (record { instr = y; live = x.live } ∷ xs) (t ∷ x ∷ xs)
    one y i =
        let ends = ends_one t.instr x.instr y (instrs_in xs) e (less (AsOne y) i) (none_where y i) in
        record {
          stay = (
            record {
              formed = (kept (AsOne y) i).formed allowed;
              told = s.1.0.told;
              fits =
                  λ f. recognised_fits m (x.live Cc)
                  (joined words code_leaves (is_live_after (pair_with t.instr x)) (x.live Cc) t.instr x.instr).got
                  y i;
            },
            s.1.1,
          );
          no_more = one_flows y i;
          last = ends.0;
          ending = ends.1;
        }

  pub standing_gone : IsMachine m → (d : PlainInstr) (done : List PlainInstr) (x : Ahead) (xs : List Ahead)
      → Standing (d ∷ done) (x ∷ xs) → combination m (pair_with d x) ≡ Gone → Standing done xs
  standing_gone allowed d done x xs h i = go h.told h.is_done h.current
    where
      go : (told : List Ahead) → instrs_in told ≡ d ∷ done → Current (reverse_aux told (x ∷ xs)) → Standing done xs
      go [] e c = absurd (cc)
      go (t ∷ ts) e c =
          let first : t.instr ≡ d = (cc) in
          let others : instrs_in ts ≡ done = (cc) in
          let j = subst (λ (a : PlainInstr). combination m (pair_with a x) ≡ Gone) (sym first) i in
          record {
            told = ts;
            is_done = others;
            current = replaced ts t (x ∷ xs) xs c (λ s l. gone allowed t x xs s l h.exact.0 j);
            exact = h.exact.1;
          }

  pub standing_one : IsMachine m
      → (d : PlainInstr) (done : List PlainInstr) (x : Ahead) (xs : List Ahead) (y : PlainInstr)
      → Standing (d ∷ done) (x ∷ xs) → combination m (pair_with d x) ≡ AsOne y
      → Standing done (record { instr = y; live = x.live } ∷ xs)
  standing_one allowed d done x xs y h i = go h.told h.is_done h.current
    where
      go : (told : List Ahead) → instrs_in told ≡ d ∷ done → Current (reverse_aux told (x ∷ xs))
          → Standing done (record { instr = y; live = x.live } ∷ xs)
      go [] e c = absurd (cc)
      go (t ∷ ts) e c =
          let first : t.instr ≡ d = (cc) in
          let others : instrs_in ts ≡ done = (cc) in
          let j = subst (λ (a : PlainInstr). combination m (pair_with a x) ≡ AsOne y) (sym first) i in
          record {
            told = ts;
            is_done = others;
            current = replaced ts t (x ∷ xs) (record { instr = y; live = x.live } ∷ xs) c
                (λ s l. one allowed t x xs s l h.exact.0 y j);
            exact = h.exact;
          }

  -- The start of a block

  -- what holds of an instruction of the code, with what is told of it
  record AtStart (xs : List PlainInstr) (live : Var → Bool) (k : ℕ) : Type 0 where
    formed : WellFormed (instr_at k xs)
    tells : (v : Var) → IsTrue (live v) ↔ IsLive code v (record { block = b; rest = drop (suc k) xs })
    fits : AllFit m code → IsSome (fit m (live Cc) (instr_at k xs))

  all_ahead : (f : ℕ → Var → Bool) (i : ℕ) (xs : List PlainInstr)
      → ((k : ℕ) → k < length xs → AtStart xs (f (i + k)) k)
      → AllStay (instrs_ahead f i xs) × Exact (instrs_ahead f i xs)
  all_ahead f i [] h = (tt, tt)
  all_ahead f i (x ∷ xs) h =
      let here : i + zero ≡ i = omega arith in
      let first : AtStart (x ∷ xs) (f i) zero = rw here at (h zero (omega arith)) in
      let others = all_ahead f (suc i) xs
      (λ k l. let n : i + suc k ≡ suc i + k = omega arith in
      let a = rw n at (h (suc k) (omega arith)) in
      record { formed = a.formed; tells = a.tells; fits = a.fits }) in (
        (
          record {
            formed = first.formed;
            told = λ v g. (first.tells v).1 (live_where code b v xs (rw (ahead_instrs f (suc i) xs) at g));
            fits = first.fits;
          },
          others.0,
        ),
        ((λ v t. rw (ahead_instrs f (suc i) xs) (live_flows code b v xs ((first.tells v).0 t))), others.1),
      )

  instr_all : (P : PlainInstr → Type 0) (xs : List PlainInstr) (k : ℕ) → All P xs → k < length xs → P (instr_at k xs)
  instr_all P [] k h l = absurd (omega arith)
  instr_all P (x ∷ xs) zero h l = All-head P x xs h
  instr_all P (x ∷ xs) (suc k) h l = instr_all P xs k (All-tail P x xs h) (omega arith)

  pub standing_start : (f : ℕ → Var → Bool) → All WellFormed (instrs_at code b) → EndsLast (instrs_at code b)
      → ((i : ℕ) (v : Var) → i < length (instrs_at code b) → IsTrue (f i v) ↔ LiveAfter code b i v)
      → Standing [] (instrs_ahead f 0 (instrs_at code b))
  standing_start f formed last tells =
      let xs = instrs_at code b in
      let all = all_ahead f 0 xs
      (λ k l. let n : 0 + k ≡ k = omega arith in
      rw n (record {
        formed = instr_all WellFormed xs k formed l;
        tells = λ v. tells k v l;
        fits = λ g. g b k (f k Cc) l (tells k Cc l);
      })) in
      let same = ahead_instrs f 0 xs in
      record {
        told = [];
        is_done = refl;
        current = record {
          stay = all.0;
          no_more = λ v g. rw same at g;
          last = rw same last;
          ending = rw same (no_further_self (block_ending xs));
        };
        exact = all.1;
      }
