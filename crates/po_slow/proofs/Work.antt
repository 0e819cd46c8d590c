-- A scan ends: each step leaves less work to do.
--
-- A pass that changes nothing is the last one, and each that changes something leaves fewer instructions. Within a
-- pass the instructions to come, each counted twice, those that are done in the block, and the blocks to come grow
-- fewer.
use Rattle.std.proofs.Common.{◌≡◌, ℕ, suc, ◌+◌, ◌*◌, ◌<◌, ◌≤◌, Bool, true, false, List, [], ◌∷◌, length, reverse}
use Rattle.std.proofs.Common.{Option, Some, None, refl, sym, ◌∙◌, ap, subst, arith, mul_comm}
use mathlib.Core.List.{reverse_aux}
use mathlib.Core.Logic.{◌⊎◌, inl, inr}
use Rattle.std.specs.Prelude.{if◌then◌else◌}
use Rattle.std.proofs.lemmas.List.{length-reverse}
use Rattle.std.proofs.lemmas.Nat.{mul-le, mul-add-lt}
use Rattle.po_term.specs.declared.term.Label.{Label}
use Rattle.po_model.specs.declared.var.Var.{Var}
use Rattle.po_model.specs.Blocks.{PlainBlock}
use Rattle.po_model.specs.Pairs.{PlainPair}
use Rattle.po_model.specs.Combined.{Kept, Gone, AsOne, Answer}
use Rattle.po_model.specs.Scanned.{Ahead, Stand, BlockAhead, InBlock, Scan, Within, Finished, ScanStep, Tried, Ended}
use Rattle.po_model.specs.Scanned.{is_dead, onward, ready, settled, pair_ready, after_try, instrs_ahead, blocks_ahead}
use Rattle.po_model.specs.Scanned.{enter, passed_with, AfterPass, AfterBlock, AfterEnd, Answers, Goes}
use Rattle.po_slow.proofs.Keeping.{less_or_not}
use Rattle.po_term.specs.Moves.{PlainInstr}

-- how many instructions blocks have
abbrev pub count : List PlainBlock → ℕ
count [] = 0
count (x ∷ xs) = length x.instrs + count xs

abbrev pub count_ahead : List BlockAhead → ℕ
count_ahead [] = 0
count_ahead (x ∷ xs) = length x.instrs + count_ahead xs

abbrev pub one_if : Bool → ℕ
one_if true = 1
one_if false = 0

-- all instructions; whether another pass follows; all blocks; and what is left of the pass
abbrev pub all_of : InBlock → ℕ
all_of s = length s.stand.done + length s.stand.rest + count_ahead s.coming + count s.passed

abbrev pub blocks_of : InBlock → ℕ
blocks_of s = 1 + length s.coming + length s.passed

abbrev pub left_of : InBlock → ℕ
left_of s = 2 * (length s.stand.rest + count_ahead s.coming) + length s.stand.done + 1 + length s.coming

abbrev pub weight : ℕ → ℕ → ℕ → ℕ → ℕ
weight all again blocks left = (2 * all + again) * (2 * all + blocks + 1) + left

abbrev pub work : Scan → ℕ
work (Within s) = weight (all_of s) (one_if s.stand.changed) (blocks_of s) (left_of s)
work (Finished code) = 0

falls : (t c n q t' c' n' q' : ℕ) → n' ≡ n → q' ≤ 2 * t' + n' → c' ≤ 1
    → (t' < t) ⊎ ((t' ≡ t) × ((c' < c) ⊎ ((c' ≡ c) × (q' < q)))) → weight t' c' n' q' < weight t c n q
falls t c n q t' c' n' q' e small one (inl h) =
    let a : (2 * t' + c') * (2 * t' + n' + 1) + q' < (2 * t' + n' + 1) * (2 * t + c) =
    mul-add-lt (2 * t' + c') (2 * t' + n' + 1) q' (2 * t + c) (omega arith) (omega arith) in
    let b : (2 * t' + n' + 1) * (2 * t + c) ≤ (2 * t + n + 1) * (2 * t + c) =
    mul-le (2 * t' + n' + 1) (2 * t + c) (2 * t + n + 1) (2 * t + c) (omega arith) (omega arith) in
    omega (arith, a, b, mul_comm (2 * t + n + 1) (2 * t + c))
falls t c n q t' c' n' q' e small one (inr (i, inl h)) =
    let a : (2 * t' + c') * (2 * t' + n' + 1) + q' < (2 * t' + n' + 1) * (2 * t + c) =
    mul-add-lt (2 * t' + c') (2 * t' + n' + 1) q' (2 * t + c) (omega arith) (omega arith) in
    let b : (2 * t' + n' + 1) * (2 * t + c) ≤ (2 * t + n + 1) * (2 * t + c) =
    mul-le (2 * t' + n' + 1) (2 * t + c) (2 * t + n + 1) (2 * t + c) (omega arith) (omega arith) in
    omega (arith, a, b, mul_comm (2 * t + n + 1) (2 * t + c))
falls t c n q t' c' n' q' e small one (inr (i, inr (f, h))) =
    let same : (2 * t' + c') * (2 * t' + n' + 1) ≡ (2 * t + c) * (2 * t + n + 1) =
    (λ j. (2 * i j + f j) * (2 * i j + e j + 1)) in
    omega (arith, same)

one_small : (b : Bool) → one_if b ≤ 1
one_small true = omega arith
one_small false = omega arith

-- Within a block

-- fewer instructions are left, or as many and nothing else has changed
abbrev Fell : ℕ → ℕ → Bool → Stand → Type 0
Fell done rest changed s =
    (length s.done + length s.rest < done + rest)
    ⊎ ((s.changed ≡ changed) × (length s.done + length s.rest ≡ done + rest)
    × (2 * length s.rest + length s.done ≤ 2 * rest + done))

unchanged_or_fewer : (done rest : ℕ) (changed : Bool) (s : Stand) → Fell done rest changed s
    → length s.done + length s.rest ≤ done + rest
unchanged_or_fewer done rest changed s (inl h) = omega arith
unchanged_or_fewer done rest changed s (inr (c, t, q)) = omega arith

onward_fell : (done : List PlainInstr) (rest : List Ahead) (changed : Bool)
    → Fell (length done) (length rest) changed (onward done rest changed)
onward_fell done [] changed = inr (refl, refl, omega arith)
onward_fell [] (x ∷ xs) changed =
    go (is_dead x.live x.instr) (onward_fell [] xs true) (onward_fell (x.instr ∷ []) xs changed)
  where
    first : (s : Stand) → Fell 1 (length xs) changed s → Fell 0 (suc (length xs)) changed s
    first s (inl h) = inl (omega arith)
    first s (inr (c, t, q)) = inr (c, omega arith, omega arith)

    go : (dead : Bool) → Fell 0 (length xs) true (onward [] xs true)
        → Fell 1 (length xs) changed (onward (x.instr ∷ []) xs changed)
        → Fell 0 (suc (length xs)) changed (if dead then onward [] xs true else onward (x.instr ∷ []) xs changed)
    go true a b = inl (omega (arith, unchanged_or_fewer 0 (length xs) true (onward [] xs true) a))
    go false a b = first (onward (x.instr ∷ []) xs changed) b
onward_fell (d ∷ ds) (x ∷ xs) changed = go (is_dead x.live x.instr) (onward_fell (d ∷ ds) xs true)
  where
    go : (dead : Bool) → Fell (suc (length ds)) (length xs) true (onward (d ∷ ds) xs true)
        → Fell (suc (length ds)) (suc (length xs)) changed
        (if dead then onward (d ∷ ds) xs true else record { done = d ∷ ds; rest = x ∷ xs; changed = changed })
    go true a = inl (omega (arith, unchanged_or_fewer (suc (length ds)) (length xs) true (onward (d ∷ ds) xs true) a))
    go false a = inr (refl, refl, omega arith)

-- a pair that is tried leaves fewer instructions, or fewer to come
abbrev Lessens : ℕ → ℕ → Bool → Stand → Type 0
Lessens done rest changed s =
    (length s.done + length s.rest < done + rest)
    ⊎ ((s.changed ≡ changed) × (length s.done + length s.rest ≡ done + rest)
    × (2 * length s.rest + length s.done < 2 * rest + done))

settled_lessens : (o : Answer) (d : PlainInstr) (ds : List PlainInstr) (x : Ahead) (xs : List Ahead) (changed : Bool)
    → Lessens (suc (length ds)) (suc (length xs)) changed (settled o (d ∷ ds) (x ∷ xs) changed)
settled_lessens Kept d ds x xs changed =
    go (onward (x.instr ∷ d ∷ ds) xs changed) (onward_fell (x.instr ∷ d ∷ ds) xs changed)
  where
    go : (s : Stand) → Fell (suc (suc (length ds))) (length xs) changed s
        → Lessens (suc (length ds)) (suc (length xs)) changed s
    go s (inl h) = inl (omega arith)
    go s (inr (c, t, q)) = inr (c, omega arith, omega arith)
settled_lessens Gone d ds x xs changed =
    inl (omega (arith, unchanged_or_fewer (length ds) (length xs) true (onward ds xs true) (onward_fell ds xs true)))
settled_lessens (AsOne y) d ds x xs changed =
    let z : Ahead = record { instr = y; live = x.live } in
    inl (omega (
      arith,
      unchanged_or_fewer (length ds) (suc (length xs)) true (onward ds (z ∷ xs) true) (onward_fell ds (z ∷ xs) true),
    ))

in_block : (s : InBlock) (t : Stand) → Lessens (length s.stand.done) (length s.stand.rest) s.stand.changed t
    → work (Within (record { label = s.label; stand = t; passed = s.passed; coming = s.coming })) < work (Within s)
in_block s t h =
    falls (all_of s) (one_if s.stand.changed) (blocks_of s) (left_of s)
    (length t.done + length t.rest + count_ahead s.coming + count s.passed) (one_if t.changed) (blocks_of s)
    (2 * (length t.rest + count_ahead s.coming) + length t.done + 1 + length s.coming) refl (omega arith)
    (one_small t.changed) (go h)
  where
    go : Lessens (length s.stand.done) (length s.stand.rest) s.stand.changed t
        → (length t.done + length t.rest + count_ahead s.coming + count s.passed < all_of s)
        ⊎ ((length t.done + length t.rest + count_ahead s.coming + count s.passed ≡ all_of s)
        × ((one_if t.changed < one_if s.stand.changed)
        ⊎ ((one_if t.changed ≡ one_if s.stand.changed)
        × (2 * (length t.rest + count_ahead s.coming) + length t.done + 1 + length s.coming < left_of s))))
    go (inl h) = inl (omega arith)
    go (inr (c, t, q)) = inr (omega arith, inr (ap one_if c, omega arith))

tried_less : (o : Answer) (s : Scan) (p : Option PlainPair) → pair_ready s ≡ p → (p ≡ None → ⊥)
    → work (after_try o s) < work s
tried_less o (Within s) p e some =
    in_block s (settled o s.stand.done s.stand.rest s.stand.changed) (go s.stand.done s.stand.rest e)
  where
    go : (done : List PlainInstr) (rest : List Ahead) → ready done rest ≡ p
        → Lessens (length done) (length rest) s.stand.changed (settled o done rest s.stand.changed)
    go [] rest e = absurd (some (sym e))
    go (d ∷ ds) [] e = absurd (some (sym e))
    go (d ∷ ds) (x ∷ xs) e = settled_lessens o d ds x xs s.stand.changed
tried_less o (Finished code) p e some = absurd (some (sym e))

-- From block to block

count_onto : (xs ys : List PlainBlock) → count (reverse_aux xs ys) ≡ count xs + count ys
count_onto [] ys = omega arith
count_onto (x ∷ xs) ys = count_onto xs (x ∷ ys) ∙ omega arith

length_ahead : (live : ℕ → Var → Bool) (i : ℕ) (xs : List PlainInstr) → length (instrs_ahead live i xs) ≡ length xs
length_ahead live i [] = refl
length_ahead live i (x ∷ xs) = ap suc (length_ahead live (suc i) xs)

count_of_ahead : (live : ℕ → ℕ → Var → Bool) (b : ℕ) (xs : List PlainBlock)
    → count_ahead (blocks_ahead live b xs) ≡ count xs
count_of_ahead live b [] = refl
count_of_ahead live b (x ∷ xs) = omega (arith, length_ahead (live b) 0 x.instrs, count_of_ahead live (suc b) xs)

blocks_of_ahead : (live : ℕ → ℕ → Var → Bool) (b : ℕ) (xs : List PlainBlock)
    → length (blocks_ahead live b xs) ≡ length xs
blocks_of_ahead live b [] = refl
blocks_of_ahead live b (x ∷ xs) = ap suc (blocks_of_ahead live (suc b) xs)

-- into the next block of the pass
next_less : (label : Option Label) (done : List PlainInstr) (rest : List Ahead) (changed : Bool)
    (passed : List PlainBlock) (b : BlockAhead) (bs : List BlockAhead)
    → work (enter (record { label = label; instrs = reverse done } ∷ passed) (b ∷ bs) changed)
    < work (Within (record {
      label = label;
      stand = record { done = done; rest = rest; changed = changed };
      passed = passed;
      coming = b ∷ bs;
    }))
next_less label done rest changed passed b bs =
    falls (length done + length rest + (length b.instrs + count_ahead bs) + count passed) (one_if changed)
    (1 + suc (length bs) + length passed)
    (2 * (length rest + (length b.instrs + count_ahead bs)) + length done + 1 + suc (length bs))
    (length st.done + length st.rest + count_ahead bs + (length (reverse done) + count passed)) (one_if st.changed)
    (1 + length bs + suc (length passed)) (2 * (length st.rest + count_ahead bs) + length st.done + 1 + length bs)
    (omega arith) (omega arith) (one_small st.changed) (go (onward_fell [] b.instrs changed))
  where
    st : Stand
    st = onward [] b.instrs changed

    go : Fell 0 (length b.instrs) changed (onward [] b.instrs changed)
        → (length st.done + length st.rest + count_ahead bs + (length (reverse done) + count passed)
        < length done + length rest + (length b.instrs + count_ahead bs) + count passed)
        ⊎ ((length st.done + length st.rest + count_ahead bs + (length (reverse done) + count passed)
        ≡ length done + length rest + (length b.instrs + count_ahead bs) + count passed)
        × ((one_if st.changed < one_if changed)
        ⊎ ((one_if st.changed ≡ one_if changed)
        × (2 * (length st.rest + count_ahead bs) + length st.done + 1 + length bs
        < 2 * (length rest + (length b.instrs + count_ahead bs)) + length done + 1 + suc (length bs)))))
    go (inl h) = inl (omega (arith, length-reverse done))
    go (inr (c, t, q)) =
        elim (less_or_not 0 (length rest)) [
          | inl h ↦ inl (omega (arith, length-reverse done))
          | inr h ↦ inr (omega (arith, length-reverse done), inr (ap one_if c, omega arith))
        ]

-- into the first block, in one pass more
again_less : (label : Option Label) (done : List PlainInstr) (rest : List Ahead) (passed code : List PlainBlock)
    (live : ℕ → ℕ → Var → Bool) → count code ≡ length done + count passed → length code ≡ suc (length passed)
    → work (enter [] (blocks_ahead live 0 code) false)
    < work (Within (record {
      label = label;
      stand = record { done = done; rest = rest; changed = true };
      passed = passed;
      coming = [];
    }))
again_less label done rest passed [] live n l = absurd (omega arith)
again_less label done rest passed (x ∷ xs) live n l =
    falls (length done + length rest + 0 + count passed) 1 (1 + 0 + length passed)
    (2 * (length rest + 0) + length done + 1 + 0)
    (length st.done + length st.rest + count_ahead (blocks_ahead live 1 xs) + 0) (one_if st.changed)
    (1 + length (blocks_ahead live 1 xs) + 0)
    (2 * (length st.rest + count_ahead (blocks_ahead live 1 xs)) + length st.done + 1
    + length (blocks_ahead live 1 xs))
    (omega (arith, blocks_of_ahead live 1 xs)) (omega arith) (one_small st.changed)
    (go (onward_fell [] (instrs_ahead (live 0) 0 x.instrs) false))
  where
    st : Stand
    st = onward [] (instrs_ahead (live 0) 0 x.instrs) false

    go : Fell 0 (length (instrs_ahead (live 0) 0 x.instrs)) false (onward [] (instrs_ahead (live 0) 0 x.instrs) false)
        → (length st.done + length st.rest + count_ahead (blocks_ahead live 1 xs) + 0
        < length done + length rest + 0 + count passed)
        ⊎ ((length st.done + length st.rest + count_ahead (blocks_ahead live 1 xs) + 0
        ≡ length done + length rest + 0 + count passed)
        × ((one_if st.changed < 1)
        ⊎ ((one_if st.changed ≡ 1)
        × (2 * (length st.rest + count_ahead (blocks_ahead live 1 xs)) + length st.done + 1
        + length (blocks_ahead live 1 xs) < 2 * (length rest + 0) + length done + 1 + 0))))
    go (inl h) = inl (omega (arith, n, length_ahead (live 0) 0 x.instrs, count_of_ahead live 1 xs))
    go (inr (c, t, q)) = elim (less_or_not 0 (length rest)) [
      | inl h ↦ inl (omega (arith, n, length_ahead (live 0) 0 x.instrs, count_of_ahead live 1 xs))
      | inr h ↦
          inr (
            omega (arith, n, length_ahead (live 0) 0 x.instrs, count_of_ahead live 1 xs),
            inl (omega (arith, ap one_if c)),
          )
    ]

-- to the finish
finish_less : (s : InBlock) → 0 < work (Within s)
finish_less s = omega arith

ended_less : (s t : Scan) → AfterEnd s t → work t < work s
ended_less (Within s) t (e, h) = go s.coming h
  where
    passing : (changed : Bool) → AfterPass changed (reverse (passed_with s)) t
        → work t
        < work (Within (record {
          label = s.label;
          stand = record { done = s.stand.done; rest = s.stand.rest; changed = changed };
          passed = s.passed;
          coming = [];
        }))
    passing true (live, tells, i) =
        let here : PlainBlock = record { label = s.label; instrs = reverse s.stand.done } in
        let n : count (reverse (passed_with s)) ≡ length s.stand.done + count s.passed =
        omega (arith, count_onto (passed_with s) [], length-reverse s.stand.done) in
        subst (λ u. work u
        < work (Within (record {
          label = s.label;
          stand = record { done = s.stand.done; rest = s.stand.rest; changed = true };
          passed = s.passed;
          coming = [];
        }))) (sym i)
        (again_less s.label s.stand.done s.stand.rest s.passed (reverse (passed_with s)) live n
        (length-reverse (passed_with s)))
    passing false i =
        subst (λ u. work u
        < work (Within (record {
          label = s.label;
          stand = record { done = s.stand.done; rest = s.stand.rest; changed = false };
          passed = s.passed;
          coming = [];
        }))) (sym i)
        (finish_less (record {
          label = s.label;
          stand = record { done = s.stand.done; rest = s.stand.rest; changed = false };
          passed = s.passed;
          coming = [];
        }))

    go : (coming : List BlockAhead) → AfterBlock coming s t
        → work t < work (Within (record { label = s.label; stand = s.stand; passed = s.passed; coming = coming }))
    go [] h = passing s.stand.changed h
    go (b ∷ bs) i =
        subst (λ u.
        work u < work (Within (record { label = s.label; stand = s.stand; passed = s.passed; coming = b ∷ bs })))
        (sym i) (next_less s.label s.stand.done s.stand.rest s.stand.changed s.passed b bs)
ended_less (Finished code) t h = absurd h

-- each step leaves less work, whatever becomes of the pairs
pub step_less : (answer : Answers) (s t : Scan) (step : ScanStep) → Goes answer s (step ∷ []) t → work t < work s
step_less answer s t (Tried p) (e, i) =
    subst (λ u. work u < work s) (sym i) (tried_less (answer p) s (Some p) e (λ n. absurd (cc)))
step_less answer s t Ended (u, after, i) = subst (λ v. work v < work s) (sym i) (ended_less s u after)
