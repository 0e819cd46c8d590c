-- Passes keep straight code: each virtual register is set once, and read only behind its setting.
use Rattle.std.proofs.Common.{◌≡◌, ℕ, zero, suc, ◌<◌, Bool, true, false, List, [], ◌∷◌, ◌++◌, length, map, drop}
use Rattle.std.proofs.Common.{reverse, refl, sym, ◌∙◌, ap, subst, arith}
use Rattle.std.specs.Prelude.{Contains, is_some, not, ◌||◌, ◌&&◌, ⊤}
use Rattle.std.proofs.lemmas.Bool.{false≢true, true≢false, or_cases}
use Rattle.std.proofs.lemmas.List.{append_assoc}
use Rattle.std.proofs.lemmas.List.Concat.{flat_map-append}
use Rattle.std.proofs.lemmas.List.Elements.{Contains-append_left, Contains-append_right, Contains-append_cases}
use mathlib.Core.Logic.{◌⊎◌, inl, inr}
use Rattle.po_term.specs.declared.term.Reg.TheVariants.{Virt}
use Rattle.po_model.specs.declared.machine.Machine.{Machine}
use Rattle.po_model.specs.declared.var.Var.{Var}
use Rattle.po_model.specs.declared.var.Var.TheVariants.{Cc}
use Rattle.po_model.specs.Blocks.{PlainBlock, instrs_at}
use Rattle.po_model.specs.LiveAfter.{reads, sets}
use Rattle.po_model.specs.Machines.{IsMachine}
use Rattle.po_model.specs.Pairs.{PlainPair, is_live_after, is_set_in}
use Rattle.po_model.specs.Combined.{Gone, AsOne}
use Rattle.po_model.specs.Scanned.{Ahead, is_dead, pair_with, instrs_ahead, Tells, Answers, IsScanned, AreSafe}
use Rattle.po_model.specs.UnitCodes.{IsStraight, written, all_written, ReadsBehind, flat, IsFormedCode}
use Rattle.po_subst.specs.KeepsEffect.{live_before, lives}
use Rattle.po_subst.proofs.Reading.{unset_right}
use Rattle.po_slow.specs.KeepsEffect.{IsLiveAfter, KeepsEffect}
use Rattle.po_slow.proofs.Sound.{answer_keeps}
use Rattle.po_slow.proofs.Passes.{Told, Laws, by_passes, label_of}
use Rattle.po_slow.proofs.Onto.{onto, onto_reverse}
use Rattle.po_slow.proofs.PairWith.{pair_tells, pair_names}
use Rattle.po_slow.proofs.Blockwise.{instrs_in, whole, ahead_instrs, block_at, all_blocks, same_length}
use Rattle.po_slow.proofs.Distinct.{IsDistinct, Within, nothing_in, distinct_nil, distinct_split, distinct_append}
use Rattle.po_slow.proofs.Distinct.{within_append, Parted, parted, distinct_replaced}
use Rattle.po_slow.proofs.Virtuals.{virtual, written_if_set, set_if_written, written_once, dead_unset, read_in}
use Rattle.po_slow.proofs.Virtuals.{read_live, behind_by, set_by, written_onto, behind_replaced}
use Rattle.po_slow.proofs.Forms.{Formed, Stays, StaysAt, stays_pair, stays_at_start, kept_form, form_laws}
use Rattle.po_term.specs.Moves.{PlainInstr}

-- What stands in the place of a pair

-- where the first of two reads only what is set before it, and the second one only that and what the first one sets
module _ (before : List ℕ) (a b : PlainInstr) (first : (v : ℕ) → reads a (virtual v) ≡ true → Contains before v)
    (second : (v : ℕ) → reads b (virtual v) ≡ true → Contains (before ++ written a) v) where
  -- what is live before the two is set before them, or neither of them sets it and it is live behind them
  live_both : (after : Var → Bool) (v : ℕ) → live_before a (live_before b after) (virtual v) ≡ true
      → Contains before v ⊎ ((sets a (virtual v) ≡ false) × (sets b (virtual v) ≡ false) × (after (virtual v) ≡ true))
  live_both after v e =
      go (reads a (virtual v)) refl (sets a (virtual v)) refl (reads b (virtual v)) refl (sets b (virtual v)) refl e
    where
      from_second : sets a (virtual v) ≡ false → Contains before v ⊎ Contains (written a) v → Contains before v
      from_second n (inl c) = c
      from_second n (inr c) = absurd (true≢false (sym (set_if_written a v c) ∙ n))

      go : (ra : Bool) → reads a (virtual v) ≡ ra → (sa : Bool) → sets a (virtual v) ≡ sa → (rb : Bool)
          → reads b (virtual v) ≡ rb → (sb : Bool) → sets b (virtual v) ≡ sb
          → (ra || (not sa && (rb || (not sb && after (virtual v))))) ≡ true
          → Contains before v
          ⊎ ((sets a (virtual v) ≡ false) × (sets b (virtual v) ≡ false) × (after (virtual v) ≡ true))
      go true i sa j rb k sb l e = inl (first v i)
      go false i true j rb k sb l e = absurd (false≢true e)
      go false i false j true k sb l e = inl (from_second j (Contains-append_cases before (written a) v (second v k)))
      go false i false j false k true l e = absurd (false≢true e)
      go false i false j false k false l e = inr (j, l, e)

  -- a list that makes nothing live sets what one of the two sets and is live behind them
  still_set : (y : PlainInstr) (after : Var → Bool) (v : ℕ)
      → (live_before y after (virtual v) ≡ true → live_before a (live_before b after) (virtual v) ≡ true)
      → (Contains before v → ⊥) → Contains (written a ++ written b) v → after (virtual v) ≡ true
      → Contains (written y) v
  still_set y after v law unset c l = go (sets y (virtual v)) refl law
    where
      both : Contains (written a) v ⊎ Contains (written b) v → sets a (virtual v) ≡ false → sets b (virtual v) ≡ false
          → ⊥
      both (inl d) i j = true≢false (sym (set_if_written a v d) ∙ i)
      both (inr d) i j = true≢false (sym (set_if_written b v d) ∙ j)

      neither : Contains before v
          ⊎ ((sets a (virtual v) ≡ false) × (sets b (virtual v) ≡ false) × (after (virtual v) ≡ true)) → ⊥
      neither (inl d) = unset d
      neither (inr (i, j, k)) = both (Contains-append_cases (written a) (written b) v c) i j

      passed : (r l : Bool) → l ≡ true → (r || (true && l)) ≡ true
      passed true l e = refl
      passed false l e = e

      go : (s : Bool) → sets y (virtual v) ≡ s
          → ((reads y (virtual v) || (not (sets y (virtual v)) && after (virtual v))) ≡ true
          → live_before a (live_before b after) (virtual v) ≡ true) → Contains (written y) v
      go true i f = written_if_set y v i
      go false i f =
          absurd (neither (live_both after v (f (rw (i) (passed (reads y (virtual v)) (after (virtual v)) l)))))

  -- it reads only what is set before the two
  reads_before : (y : PlainInstr) (after : Var → Bool) (v : ℕ)
      → (live_before y after (virtual v) ≡ true → live_before a (live_before b after) (virtual v) ≡ true)
      → (sets a (virtual v) ≡ false → sets b (virtual v) ≡ false → after (virtual v) ≡ true → ⊥)
      → reads y (virtual v) ≡ true → Contains before v
  reads_before y after v law dead e = go (live_both after v (law (rw (e) refl)))
    where
      go : Contains before v
          ⊎ ((sets a (virtual v) ≡ false) × (sets b (virtual v) ≡ false) × (after (virtual v) ≡ true))
          → Contains before v
      go (inl c) = c
      go (inr (i, j, k)) = absurd (dead i j k)

-- the pair by itself: what is live among what it sets
abbrev own : PlainInstr → Ahead → Var → Bool
own d x v = lives (is_live_after (pair_with d x)) (x.live Cc) v

own_tells : (d : PlainInstr) (x : Ahead) → IsLiveAfter (pair_with d x) (own d x)
own_tells d x = record { regs = λ r e. refl; cc = refl }

own_set : (d : PlainInstr) (x : Ahead) (v : ℕ) → sets d (virtual v) ≡ false → sets x.instr (virtual v) ≡ false
    → own d x (virtual v) ≡ true → ⊥
own_set d x v i j e = go (or_cases (is_set_in d (Virt v)) (is_set_in x.instr (Virt v)) (pair_names d x (Virt v) e))
  where
    unset : (ms : PlainInstr) → sets ms (virtual v) ≡ false → is_set_in ms (Virt v) ≡ false
    unset ms k = ap is_some (unset_right (Virt v) ms k)

    go : (is_set_in d (Virt v) ≡ true) ⊎ (is_set_in x.instr (Virt v) ≡ true) → ⊥
    go (inl k) = true≢false (sym k ∙ unset d i)
    go (inr k) = true≢false (sym k ∙ unset x.instr j)

-- what an instruction in the place of a pair has
record StandsFor (d : PlainInstr) (x : Ahead) (y : PlainInstr) : Type 0 where
  pub once : IsDistinct (written y)
  pub targets : (v : ℕ) → sets y (virtual v) ≡ true → (sets d (virtual v) || sets x.instr (virtual v)) ≡ true
  pub law : (after : Var → Bool) → IsLiveAfter (pair_with d x) after → (v : ℕ) → live_before y after (virtual v) ≡ true
      → live_before d (live_before x.instr after) (virtual v) ≡ true

none_stands : (m : Machine) (d : PlainInstr) (x : Ahead) → KeepsEffect m (pair_with d x) Gone → StandsFor d x []
none_stands m d x k =
    record {
      once = distinct_nil;
      targets = λ v e. k.targets (virtual v) e;
      law = λ after tells v e. k.nothing_live after tells (virtual v) e;
    }

one_stands : (m : Machine) → IsMachine m → (d : PlainInstr) (x : Ahead) (y : PlainInstr)
    → KeepsEffect m (pair_with d x) (AsOne y) → StandsFor d x y
one_stands m allowed d x y k = record {
  once = written_once y (k.formed allowed).pairs;
  targets = λ v e. k.targets (virtual v) e;
  law = λ after tells v e. k.nothing_live after tells (virtual v) e;
}

-- A block while it is scanned

-- what holds of these instructions, which are made of the block b
pub record Once (code : List PlainBlock) (b : ℕ) (xs : List PlainInstr) : Type 0 where
  pub once : IsDistinct (all_written xs)
  pub within : Within (all_written xs) (all_written (instrs_at code b))
  pub behind : ReadsBehind [] xs

-- what is to come behind the next instruction is the rest of the block, with what is live in it
abbrev pub Comes : List PlainBlock → Told → ℕ → List Ahead → Type 0
Comes code live b [] = ⊤
Comes code live b (x ∷ xs) =
    (k : ℕ) × (k < length (instrs_at code b)) × (x.live ≡ live b k)
    × (xs ≡ instrs_ahead (live b) (suc k) (drop (suc k) (instrs_at code b)))

drop_next : (xs : List PlainInstr) (n : ℕ) (y : PlainInstr) (ys : List PlainInstr) → drop n xs ≡ y ∷ ys
    → (n < length xs) × (drop (suc n) xs ≡ ys)
drop_next [] zero y ys e = absurd (cc)
drop_next [] (suc n) y ys e = absurd (cc)
drop_next (x ∷ xs) zero y ys e = (omega arith, (cc))
drop_next (x ∷ xs) (suc n) y ys e = let ih = drop_next xs n y ys e in (omega (arith, ih.0), ih.1)

module _ (code : List PlainBlock) (live : Told) (b : ℕ) where
  comes_from : (n : ℕ) → Comes code live b (instrs_ahead (live b) n (drop n (instrs_at code b)))
  comes_from n = go (drop n (instrs_at code b)) refl
    where
      go : (xs : List PlainInstr) → drop n (instrs_at code b) ≡ xs → Comes code live b (instrs_ahead (live b) n xs)
      go [] e = tt
      go (x ∷ xs) e =
          let next = drop_next (instrs_at code b) n x xs e in
          (n, next.0, refl, ap (λ z. instrs_ahead (live b) (suc n) z) (sym next.1))

  comes_next : (x : Ahead) (xs : List Ahead) → Comes code live b (x ∷ xs) → Comes code live b xs
  comes_next x xs (k, lt, e, f) = subst (λ (z : List Ahead). Comes code live b z) (sym f) (comes_from (suc k))

  -- what is read behind the next instruction, and not set there, is live after it
  live_here : Tells code live → (x : Ahead) (xs : List Ahead) → Comes code live b (x ∷ xs) → (v : ℕ)
      → read_in (instrs_in xs) v ≡ true → (Contains (all_written (instrs_in xs)) v → ⊥) → x.live (virtual v) ≡ true
  live_here tells x xs (k, lt, e, f) v r n =
      let rest : instrs_in xs ≡ drop (suc k) (instrs_at code b) =
      ap instrs_in f ∙ ahead_instrs (live b) (suc k) (drop (suc k) (instrs_at code b)) in
      let path = read_live code b (drop (suc k) (instrs_at code b)) v (ap (λ z. read_in z v) (sym rest) ∙ r)
      (λ c. n (subst (λ (z : List PlainInstr). Contains (all_written z) v) (sym rest) c)) in
      ap (λ (l : Var → Bool). l (virtual v)) e ∙ (tells b k (virtual v) lt).1 (inr path)

  module _ (ds : List PlainInstr) where
    -- other registers that are set between the front and what comes
    parts_of : (olds : List ℕ) (tail : List PlainInstr) (xs : List PlainInstr)
        → all_written xs ≡ olds ++ all_written tail → Once code b (onto ds xs)
        → IsDistinct (set_by ds ++ (olds ++ all_written tail))
    parts_of olds tail xs e h = subst IsDistinct (written_onto ds xs ∙ ap (λ z. set_by ds ++ z) e) h.once

    once_replaced : (olds news : List ℕ) (xs ys tail : List PlainInstr) → all_written xs ≡ olds ++ all_written tail
        → all_written ys ≡ news ++ all_written tail → IsDistinct news → Within news olds
        → (ReadsBehind (set_by ds) xs → ReadsBehind (set_by ds) ys) → Once code b (onto ds xs)
        → Once code b (onto ds ys)
    once_replaced olds news xs ys tail e i distinct less behind h = record {
      once =
          subst IsDistinct (sym made)
          (distinct_replaced (set_by ds) olds news (all_written tail) (parts_of olds tail xs e h) distinct less);
      within =
          λ v c.
          h.within v (subst (λ (z : List ℕ). Contains z v) (sym (written_onto ds xs ∙ ap (λ z. set_by ds ++ z) e))
          (within_append (set_by ds) (news ++ all_written tail) (set_by ds) (olds ++ all_written tail) (λ v c. c)
          (within_append news (all_written tail) olds (all_written tail) less (λ v c. c)) v
          (subst (λ (z : List ℕ). Contains z v) made c)));
      behind = behind_replaced ds xs ys behind h.behind;
    }
      where
        made : all_written (onto ds ys) ≡ set_by ds ++ (news ++ all_written tail)
        made = written_onto ds ys ∙ ap (λ z. set_by ds ++ z) i

    -- a dead instruction is left out
    dead_left : Tells code live → (x : Ahead) (xs : List Ahead) → Comes code live b (x ∷ xs)
        → is_dead x.live x.instr ≡ true → Once code b (whole ds (x ∷ xs)) → Once code b (whole ds xs)
    dead_left tells x xs comes dead h =
        once_replaced (written x.instr) [] (x.instr ∷ instrs_in xs) (instrs_in xs) (instrs_in xs) refl refl
        distinct_nil (λ v c. absurd (nothing_in v c))
        (λ r. behind_by (instrs_in xs) (set_by ds ++ written x.instr) (set_by ds) r.1
        (λ v c e. go v e (Contains-append_cases (set_by ds) (written x.instr) v c)))
        h
      where
        apart : Parted (set_by ds) (written x.instr) (all_written (instrs_in xs))
        apart =
            parted (set_by ds) (written x.instr) (all_written (instrs_in xs))
            (parts_of (written x.instr) (instrs_in xs) (x.instr ∷ instrs_in xs) refl h)

        go : (v : ℕ) → read_in (instrs_in xs) v ≡ true → Contains (set_by ds) v ⊎ Contains (written x.instr) v
            → Contains (set_by ds) v
        go v e (inl c) = c
        go v e (inr c) =
            absurd (dead_unset x.live x.instr v dead c (live_here tells x xs comes v e (apart.here_behind v c)))

    -- other instructions in the place of a pair
    pair_replaced : Tells code live
        → (d : PlainInstr) (x : Ahead) (xs : List Ahead) (y : PlainInstr) (news : List PlainInstr)
        → all_written (news ++ instrs_in xs) ≡ written y ++ all_written (instrs_in xs)
        → Comes code live b (x ∷ xs) → StandsFor d x y
        → (((v : ℕ) → reads y (virtual v) ≡ true → Contains (set_by ds) v)
        → ReadsBehind (set_by ds ++ written y) (instrs_in xs) → ReadsBehind (set_by ds) (news ++ instrs_in xs))
        → Once code b (onto ds (d ∷ x.instr ∷ instrs_in xs)) → Once code b (onto ds (news ++ instrs_in xs))
    pair_replaced tells d x xs y news made comes stands build h =
        once_replaced (written d ++ written x.instr) (written y) (d ∷ x.instr ∷ instrs_in xs) (news ++ instrs_in xs)
        (instrs_in xs)
        whole_is made stands.once (λ v c. less v
        (or_cases (sets d (virtual v)) (sets x.instr (virtual v)) (stands.targets v (set_if_written y v c))))
        (λ r. build
        (λ v e. reads_before (set_by ds) d x.instr r.0 r.1.0 y (own d x) v (stands.law (own d x) (own_tells d x) v)
        (own_set d x v) e)
        (behind_by (instrs_in xs) (set_by ds ++ written d ++ written x.instr) (set_by ds ++ written y) r.1.1
        (λ v c e. go r.0 r.1.0 v e (Contains-append_cases (set_by ds) (written d ++ written x.instr) v
        (subst (λ (z : List ℕ). Contains z v) (append_assoc (set_by ds) (written d) (written x.instr)) c)))))
        h
      where
        whole_is : all_written (d ∷ x.instr ∷ instrs_in xs)
            ≡ (written d ++ written x.instr) ++ all_written (instrs_in xs)
        whole_is = sym (append_assoc (written d) (written x.instr) (all_written (instrs_in xs)))

        apart : Parted (set_by ds) (written d ++ written x.instr) (all_written (instrs_in xs))
        apart =
            parted (set_by ds) (written d ++ written x.instr) (all_written (instrs_in xs))
            (parts_of (written d ++ written x.instr) (instrs_in xs) (d ∷ x.instr ∷ instrs_in xs) whole_is h)

        less : (v : ℕ) → (sets d (virtual v) ≡ true) ⊎ (sets x.instr (virtual v) ≡ true)
            → Contains (written d ++ written x.instr) v
        less v (inl e) = Contains-append_left (written d) (written x.instr) v (written_if_set d v e)
        less v (inr e) = Contains-append_right (written d) (written x.instr) v (written_if_set x.instr v e)

        go : ((v : ℕ) → reads d (virtual v) ≡ true → Contains (set_by ds) v)
            → ((v : ℕ) → reads x.instr (virtual v) ≡ true → Contains (set_by ds ++ written d) v)
            → (v : ℕ) → read_in (instrs_in xs) v ≡ true
            → Contains (set_by ds) v ⊎ Contains (written d ++ written x.instr) v → Contains (set_by ds ++ written y) v
        go f g v e (inl c) = Contains-append_left (set_by ds) (written y) v c
        go f g v e (inr c) =
            Contains-append_right (set_by ds) (written y) v
            (still_set (set_by ds) d x.instr f g y x.live v (stands.law x.live (pair_tells d x) v)
            (λ k. apart.before_here v k c) c
            (live_here tells x xs comes v e (apart.here_behind v c)))

    -- nothing is left of a pair, or one instruction stands in its place
    pair_left : Tells code live → (d : PlainInstr) (x : Ahead) (xs : List Ahead) → Comes code live b (x ∷ xs)
        → StandsFor d x [] → Once code b (onto ds (d ∷ x.instr ∷ instrs_in xs)) → Once code b (onto ds (instrs_in xs))
    pair_left tells d x xs comes stands h =
        pair_replaced tells d x xs [] [] refl comes stands
        (λ f r. behind_by (instrs_in xs) (set_by ds ++ []) (set_by ds) r
        (λ v c e. go v (Contains-append_cases (set_by ds) [] v c))) h
      where
        go : (v : ℕ) → Contains (set_by ds) v ⊎ Contains [] v → Contains (set_by ds) v
        go v (inl c) = c
        go v (inr c) = absurd (nothing_in v c)

    pair_made : Tells code live → (d : PlainInstr) (x : Ahead) (xs : List Ahead) (y : PlainInstr)
        → Comes code live b (x ∷ xs) → StandsFor d x y → Once code b (onto ds (d ∷ x.instr ∷ instrs_in xs))
        → Once code b (onto ds (y ∷ instrs_in xs))
    pair_made tells d x xs y comes stands h = pair_replaced tells d x xs y (y ∷ []) refl comes stands (λ f r. (f, r)) h

-- A whole code

written_both : (x : PlainBlock) (xs : List PlainBlock)
    → all_written (x.instrs ++ flat xs) ≡ all_written x.instrs ++ all_written (flat xs)
written_both x xs = flat_map-append written x.instrs (flat xs)

-- each block of a straight code sets each register at most once
block_once : (code : List PlainBlock) (b : ℕ) → b < length code → IsDistinct (all_written (flat code))
    → IsDistinct (all_written (instrs_at code b))
block_once [] b lt h = absurd (omega arith)
block_once (x ∷ xs) zero lt h =
    (distinct_split (all_written x.instrs) (all_written (flat xs)) (subst IsDistinct (written_both x xs) h)).0
block_once (x ∷ xs) (suc b) lt h =
    block_once xs b (omega arith)
    (distinct_split (all_written x.instrs) (all_written (flat xs)) (subst IsDistinct (written_both x xs) h)).1

-- where each block sets what it did, and nothing twice, so do all of them
record OnceAll (next code : List PlainBlock) : Type 0 where
  once : IsDistinct (all_written (flat next))
  within : Within (all_written (flat next)) (all_written (flat code))

all_once : (next code : List PlainBlock) → length next ≡ length code → IsDistinct (all_written (flat code))
    → ((b : ℕ) → b < length code → Once code b (instrs_at next b)) → OnceAll next code
all_once next code e h f = go next code e h (λ b lt. (f b lt).once) (λ b lt. (f b lt).within)
  where
    go : (next code : List PlainBlock) → length next ≡ length code → IsDistinct (all_written (flat code))
        → ((b : ℕ) → b < length code → IsDistinct (all_written (instrs_at next b)))
        → ((b : ℕ) → b < length code → Within (all_written (instrs_at next b)) (all_written (instrs_at code b)))
        → OnceAll next code
    go [] code e h f g = record { once = distinct_nil; within = λ v c. absurd (nothing_in v c) }
    go (x ∷ xs) [] e h f g = absurd (omega arith)
    go (x ∷ xs) (y ∷ ys) e h f g =
        let parts =
        distinct_split (all_written y.instrs) (all_written (flat ys)) (subst IsDistinct (written_both y ys) h) in
        let rest =
        go xs ys (omega arith) parts.1 (λ b lt. f (suc b) (omega arith)) (λ b lt. g (suc b) (omega arith)) in
        let here = g zero (omega arith) in
        record {
          once =
              subst IsDistinct (sym (written_both x xs))
              (distinct_append (all_written x.instrs) (all_written (flat xs)) (f zero (omega arith)) rest.once
              (λ v c d. parts.2 v (here v c) (rest.within v d)));
          within = λ v c. subst (λ (z : List ℕ). Contains z v) (sym (written_both y ys))
              (within_append (all_written x.instrs) (all_written (flat xs)) (all_written y.instrs)
              (all_written (flat ys)) here rest.within v
              (subst (λ (z : List ℕ). Contains z v) (written_both x xs) c));
        }

-- a formed code that is straight
pub record StraightCode (code : List PlainBlock) : Type 0 where
  pub formed : IsFormedCode code
  pub straight : IsStraight code

-- what holds where the scan of a block of it stands
record StraightAt (code : List PlainBlock) (live : Told) (b : ℕ) (done : List PlainInstr)
    (rest : List Ahead) : Type 0 where
  stays : Stays code b (whole done rest)
  once : Once code b (whole done rest)
  comes : Comes code live b rest

module _ (m : Machine) (allowed : IsMachine m) where
  start_once : (code : List PlainBlock) (live : Told) → StraightCode code → (b : ℕ) → b < length code
      → StraightAt code live b [] (instrs_ahead (live b) 0 (instrs_at code b))
  start_once code live before b lt = record {
    stays = stays_at_start code live before.formed b lt;
    once =
        subst (λ (xs : List PlainInstr). Once code b xs) (sym (ahead_instrs (live b) 0 (instrs_at code b))) (record {
          once = block_once code b lt before.straight.once;
          within = λ v c. c;
          behind = block_at (ReadsBehind []) code b lt before.straight.behind;
        });
    comes = comes_from code live b 0;
  }

  kept_straight : (code : List PlainBlock) (live : Told) → StraightCode code → (next : List PlainBlock)
      → map label_of next ≡ map label_of code
      → ((b : ℕ) → b < length code → StraightAt code live b (reverse (instrs_at next b)) []) → StraightCode next
  kept_straight code live before next e h =
      let long = same_length next code e in
      record {
        formed = (kept_form code next e (λ b lt. (h b lt).stays)).1;
        straight = record {
          once = (all_once next code long before.straight.once at).once;
          behind = all_blocks (ReadsBehind []) next (λ b lt. (at b (omega (arith, lt, long))).behind);
        };
      }
    where
      at : (b : ℕ) → b < length code → Once code b (instrs_at next b)
      at b lt = subst (λ (xs : List PlainInstr). Once code b xs) (onto_reverse (instrs_at next b)) (h b lt).once

  abbrev laws_of_form : Laws m IsFormedCode Formed StaysAt
  laws_of_form = form_laws m allowed

  straight_laws : Laws m StraightCode (λ code next. ⊤) StraightAt
  straight_laws = record {
    joins = λ a b c f g. tt;
    start = λ code live before tells b lt. start_once code live before b lt;
    formed = λ code live before tells b d done x xs h. stays_pair code b done d x (instrs_in xs) h.stays;
    dropped = λ code live before tells b done x xs h dead. record {
      stays = laws_of_form.dropped code live before.formed tells b done x xs h.stays dead;
      once = dead_left code live b done tells x xs h.comes dead h.once;
      comes = comes_next code live b x xs h.comes;
    };
    taken =
        λ code live before tells b done x xs h.
        record { stays = h.stays; once = h.once; comes = comes_next code live b x xs h.comes };
    gone = λ code live before tells b d done x xs h e. record {
      stays = laws_of_form.gone code live before.formed tells b d done x xs h.stays e;
      once =
          pair_left code live b done tells d x xs h.comes
          (none_stands m d x
          (answer_keeps m (pair_with d x) Gone (sym e) (stays_pair code b done d x (instrs_in xs) h.stays)))
          h.once;
      comes = comes_next code live b x xs h.comes;
    };
    one = λ code live before tells b d done x xs y h e. record {
      stays = laws_of_form.one code live before.formed tells b d done x xs y h.stays e;
      once =
          pair_made code live b done tells d x xs y h.comes
          (one_stands m allowed d x y
          (answer_keeps m (pair_with d x) (AsOne y) (sym e) (stays_pair code b done d x (instrs_in xs) h.stays)))
          h.once;
      comes = h.comes;
    };
    over = λ code live before tells next e h. (tt, kept_straight code live before next e h);
  }

  pub keeps_straight : (answer : Answers) → AreSafe m answer
      → (code scanned : List PlainBlock) (pairs : List PlainPair)
      → IsFormedCode code → IsScanned answer code pairs scanned → IsStraight code → IsStraight scanned
  keeps_straight answer safe code scanned pairs formed passes straight =
      (by_passes straight_laws answer safe code scanned pairs (record { formed = formed; straight = straight })
      passes).1.straight
