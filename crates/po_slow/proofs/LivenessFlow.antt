-- What is live before a list of instructions, by what is live behind it.
use Rattle.std.proofs.Common.{◌≡◌, ℕ, Bool, true, false, List, [], ◌∷◌, refl, sym, ◌∙◌, ap}
use Rattle.std.specs.Prelude.{not, ◌||◌, ◌&&◌, None}
use Rattle.std.proofs.lemmas.Bool.{false≢true}
use mathlib.Core.Logic.{◌⊎◌, inl, inr}
use Rattle.po_term.specs.declared.term.Reg.{Reg as Register}
use Rattle.po_term.specs.declared.term.Reg.TheVariants.{Fp}
use Rattle.po_term.specs.Moves.{SetTo, CcTo, StoreTo, Ends, PlainMove, PlainInstr}
use Rattle.po_term.specs.Simplified.{reg_eq}
use Rattle.po_model.specs.declared.var.Var.{Var}
use Rattle.po_model.specs.declared.var.Var.TheVariants.{Reg, Cc}
use Rattle.po_model.specs.Blocks.{PlainBlock, instrs_at, leads}
use Rattle.po_model.specs.LiveAfter.{move_sets, reads, sets, Point, ReadOn, IsRead, IsLive}
use Rattle.po_model.specs.Scanned.{is_dead_move, is_dead}
use Rattle.po_subst.specs.KeepsEffect.{live_before}
use Rattle.po_subst.proofs.Agreeing.{one_register}
use Rattle.po_model.specs.Parts.{ending_of}

module _ (Out : Var → Type 0) where
  -- v is read in these instructions before it is set, or isn't set in them and Out holds of it behind them
  abbrev pub Back : List PlainInstr → Var → Type 0
  Back [] v = Out v
  Back (x ∷ xs) v = (reads x v ≡ true) ⊎ ((sets x v ≡ false) × Back xs v)

  -- v is live before these instructions, where Out holds of what is read behind them
  abbrev pub Flows : List PlainInstr → Var → Type 0
  Flows xs v = (v ≡ Reg Fp) ⊎ Back xs v

  -- what is live before ys is live before xs
  abbrev pub NoMore : List PlainInstr → List PlainInstr → Type 0
  NoMore ys xs = (v : Var) → Flows ys v → Flows xs v

  -- before one more instruction, what is read in it
  pub flows_read : (x : PlainInstr) (xs : List PlainInstr) (v : Var) → reads x v ≡ true → Flows (x ∷ xs) v
  flows_read x xs v e = inr (inl e)

  -- and what it doesn't set
  pub flows_past : (x : PlainInstr) (xs : List PlainInstr) (v : Var) → sets x v ≡ false → Flows xs v → Flows (x ∷ xs) v
  flows_past x xs v e (inl f) = inl f
  flows_past x xs v e (inr h) = inr (inr (e, h))

  pub no_more_before : (x : PlainInstr) (xs ys : List PlainInstr) → NoMore ys xs → NoMore (x ∷ ys) (x ∷ xs)
  no_more_before x xs ys h v (inl f) = inl f
  no_more_before x xs ys h v (inr (inl e)) = inr (inl e)
  no_more_before x xs ys h v (inr (inr b)) = flows_past x xs v b.0 (h v (inr b.1))

  by_before : (r s l : Bool) {G : Type 0} → (r || (not s && l)) ≡ true → (r ≡ true → G) → (s ≡ false → l ≡ true → G)
      → G
  by_before true s l e f g = f refl
  by_before false true l e f g = absurd (false≢true e)
  by_before false false l e f g = g refl e

  -- what is live before an instruction by a set, and before two
  flows_one : (x : PlainInstr) (xs : List PlainInstr) (live : Var → Bool) (v : Var) → (live v ≡ true → Flows xs v)
      → live_before x live v ≡ true → Flows (x ∷ xs) v
  flows_one x xs live v h e =
      by_before (reads x v) (sets x v) (live v) e (flows_read x xs v) (λ n l. flows_past x xs v n (h l))

  pub flows_two : (d x : PlainInstr) (xs : List PlainInstr) (live : Var → Bool) (v : Var)
      → (live v ≡ true → Flows xs v) → live_before d (live_before x live) v ≡ true → Flows (d ∷ x ∷ xs) v
  flows_two d x xs live v h e = flows_one d (x ∷ xs) (live_before x live) v (flows_one x xs live v h) e

  before_read : (r s l : Bool) → r ≡ true → (r || (not s && l)) ≡ true
  before_read r s l e = rw e refl

  before_past : (r s l : Bool) → s ≡ false → l ≡ true → (r || (not s && l)) ≡ true
  before_past true s l e f = refl
  before_past false s l e f = rw (e, f) refl

  -- what is live before an instruction is so by a set that holds what is live behind it
  pub flows_before : (y : PlainInstr) (xs : List PlainInstr) (live : Var → Bool) (v : Var)
      → (Flows xs v → live v ≡ true) → Back (y ∷ xs) v → live_before y live v ≡ true
  flows_before y xs live v h (inl e) = before_read (reads y v) (sets y v) (live v) e
  flows_before y xs live v h (inr b) = before_past (reads y v) (sets y v) (live v) b.0 (h (inr b.1))

-- A dead instruction sets nothing that is live

unset_reg : (q r : Register) (live : Var → Bool) → not (live (Reg q)) ≡ true → live (Reg r) ≡ true → reg_eq q r ≡ false
unset_reg q r live e l = go (reg_eq q r) refl
  where
    go : (c : Bool) → reg_eq q r ≡ c → c ≡ false
    go true i = absurd (false≢true (sym (ap not l) ∙ ap (λ s. not (live (Reg s))) (sym (one_register q r i)) ∙ e))
    go false i = refl

unset_move : (live : Var → Bool) (m : PlainMove) (v : Var) → is_dead_move live m ≡ true → live v ≡ true
    → move_sets m v ≡ false
unset_move live (SetTo q t) (Reg r) e l = unset_reg q r live e l
unset_move live (SetTo q t) Cc e l = refl
unset_move live (CcTo t u) (Reg r) e l = refl
unset_move live (CcTo t u) Cc e l = absurd (false≢true (sym (ap not l) ∙ e))
unset_move live (StoreTo t u) v e l = absurd (false≢true e)
unset_move live (Ends e) v d l = absurd (false≢true d)

both_true : (a b : Bool) → (a && b) ≡ true → (a ≡ true) × (b ≡ true)
both_true true b e = (refl, e)
both_true false b e = absurd (false≢true e)

pub dead_unset : (live : Var → Bool) (x : PlainInstr) (v : Var) → is_dead live x ≡ true → live v ≡ true
    → sets x v ≡ false
dead_unset live [] v e l = refl
dead_unset live (m ∷ ms) v e l =
    let d = both_true (is_dead_move live m) (is_dead live ms) e in
    rw (unset_move live m v d.0 l, dead_unset live ms v d.1 l) refl

-- and has no transfer of control
pub dead_ending : (live : Var → Bool) (x : PlainInstr) → is_dead live x ≡ true → ending_of x ≡ None
dead_ending live [] e = refl
dead_ending live (SetTo q t ∷ ms) e = dead_ending live ms (both_true (not (live (Reg q))) (is_dead live ms) e).1
dead_ending live (CcTo t u ∷ ms) e = dead_ending live ms (both_true (not (live Cc)) (is_dead live ms) e).1
dead_ending live (StoreTo t u ∷ ms) e = absurd (false≢true e)
dead_ending live (Ends x ∷ ms) e = absurd (false≢true e)

-- Paths through a code

module _ (code : List PlainBlock) where
  -- v is read on a path from the end of the block b
  abbrev pub ReadBehind : ℕ → Var → Type 0
  ReadBehind b v = IsRead code v (record { block = b; rest = [] })

  read_back : (b : ℕ) (v : Var) (xs : List PlainInstr) → Back (ReadBehind b) xs v
      → IsRead code v (record { block = b; rest = xs })
  read_back b v [] h = h
  read_back b v (x ∷ xs) (inl e) = ([], e)
  read_back b v (x ∷ xs) (inr h) =
      let r = read_back b v xs h.1 in (record { block = b; rest = xs } ∷ r.0, (h.0, (refl, refl), r.1))

  pub live_where : (b : ℕ) (v : Var) (xs : List PlainInstr) → Flows (ReadBehind b) xs v
      → IsLive code v (record { block = b; rest = xs })
  live_where b v xs (inl e) = inl e
  live_where b v xs (inr h) = inr (read_back b v xs h)

  -- what is live at the start of a block that may follow is live at the end
  pub live_on : (b q : ℕ) (v : Var) → leads code b q ≡ true
      → IsLive code v (record { block = q; rest = instrs_at code q }) → Flows (ReadBehind b) [] v
  live_on b q v l (inl e) = inl e
  live_on b q v l (inr r) = inr (record { block = q; rest = instrs_at code q } ∷ r.0, (refl, (l, refl), r.1))

  module _ (Out : ℕ → Var → Type 0)
      (closed : (b q : ℕ) (v : Var) → leads code b q ≡ true → Flows (Out q) (instrs_at code q) v
      → Flows (Out b) [] v) where
    covered : (v : Var) (path : List Point) (b : ℕ) (xs : List PlainInstr)
        → ReadOn code v (record { block = b; rest = xs }) path → Flows (Out b) xs v
    covered v [] b [] h = absurd (false≢true h)
    covered v [] b (x ∷ xs) h = inr (inl h)
    covered v (q ∷ qs) b [] h = closed b q.block v h.1.0 (rw h.1.1 at (covered v qs q.block q.rest h.2))
    covered v (q ∷ qs) b (x ∷ xs) h =
        flows_past (Out b) x xs v h.0 (rw (h.1.1, h.1.0) at (covered v qs q.block q.rest h.2))

    -- what is read on a path is covered, where Out is closed along the edges of the code
    pub flows_where : (b : ℕ) (v : Var) (xs : List PlainInstr) → IsLive code v (record { block = b; rest = xs })
        → Flows (Out b) xs v
    flows_where b v xs (inl e) = inl e
    flows_where b v xs (inr r) = covered v r.0 b xs r.1

-- what is live before the rest of a block in a code, by what is read behind the block in it
pub live_flows : (code : List PlainBlock) (b : ℕ) (v : Var) (xs : List PlainInstr)
    → IsLive code v (record { block = b; rest = xs }) → Flows (ReadBehind code b) xs v
live_flows code b v xs h =
    flows_where code (ReadBehind code) (λ b q v l f. live_on code b q v l (live_where code q v (instrs_at code q) f)) b
    v xs h
