-- All passes make one code of a code and try one list of pairs, whichever function tells what is live.
use Rattle.std.proofs.Common.{◌≡◌, ℕ, suc, ◌+◌, ◌<◌, ◌≤◌, Bool, true, false, List, [], ◌∷◌, length, reverse, Some}
use Rattle.std.proofs.Common.{None, refl, sym, ◌∙◌, ap, subst, arith}
use Rattle.std.proofs.Math.Path.{fun_ext}
use Rattle.po_model.specs.declared.var.Var.{Var}
use Rattle.po_model.specs.Blocks.{PlainBlock, instrs_at}
use Rattle.po_model.specs.Pairs.{PlainPair}
use Rattle.po_model.specs.Scanned.{Ahead, BlockAhead, InBlock, Scan, Within, Finished, ScanStep, Tried, Ended}
use Rattle.po_model.specs.Scanned.{instrs_ahead, blocks_ahead, enter, IsPassStart, passed_with, AfterPass, AfterBlock}
use Rattle.po_model.specs.Scanned.{ready, pair_ready, after_try, AfterEnd, Answers, Goes, tried}
use Rattle.po_slow.specs.Passes.{PassesMakeOneCode}
use Rattle.po_slow.proofs.Passes.{Told}
use Rattle.po_slow.proofs.LivenessPasses.{same_test}
use Rattle.po_term.specs.Moves.{PlainInstr}

instrs_same : (f g : ℕ → Var → Bool) (i : ℕ) (xs : List PlainInstr) → ((n : ℕ) → i ≤ n → n < i + length xs → f n ≡ g n)
    → instrs_ahead f i xs ≡ instrs_ahead g i xs
instrs_same f g i [] h = refl
instrs_same f g i (x ∷ xs) h =
    let here : f i ≡ g i = h i (omega arith) (omega arith) in
    let behind = instrs_same f g (suc i) xs (λ n a b. h n (omega arith) (omega arith)) in
    ap (λ (l : Var → Bool). record { instr = x; live = l } ∷ instrs_ahead f (suc i) xs) here
    ∙ ap (λ (zs : List Ahead). record { instr = x; live = g i } ∷ zs) behind

plus_suc : (c b : ℕ) → c + suc b ≡ suc c + b
plus_suc c b = omega arith

zero_plus : (b : ℕ) → 0 + b ≡ b
zero_plus b = omega arith

plus_zero : (c : ℕ) → c + 0 ≡ c
plus_zero c = omega arith

blocks_same : (f g : Told) (b : ℕ) (bs : List PlainBlock)
    → ((c i : ℕ) → i < length (instrs_at bs c) → f (c + b) i ≡ g (c + b) i) → blocks_ahead f b bs ≡ blocks_ahead g b bs
blocks_same f g b [] h = refl
blocks_same f g b (x ∷ xs) h =
    let here =
    instrs_same (f b) (g b) 0 x.instrs (λ n a l. subst (λ d. f d n ≡ g d n) (zero_plus b) (h 0 n (omega arith))) in
    let behind =
    blocks_same f g (suc b) xs (λ c i l. subst (λ d. f d i ≡ g d i) (sym (plus_suc c b)) (h (suc c) i l)) in
    ap (λ (zs : List Ahead). record { label = x.label; instrs = zs } ∷ blocks_ahead f (suc b) xs) here
    ∙ ap (λ (zs : List BlockAhead). record { label = x.label; instrs = instrs_ahead (g b) 0 x.instrs } ∷ zs) behind

-- a pass over a code has one start
pub one_start : (code : List PlainBlock) (s t : Scan) → IsPassStart code s → IsPassStart code t → s ≡ t
one_start code s t (f, tells, e) (g, also, h) =
    let same : blocks_ahead f 0 code ≡ blocks_ahead g 0 code = blocks_same f g 0 code
    (λ c i l. subst (λ d. f d i ≡ g d i) (sym (plus_zero c))
    (fun_ext (λ v. same_test (f c i v) (g c i v) (tells c i v l) (also c i v l)))) in
    e ∙ ap (λ (bs : List BlockAhead). enter [] bs false) same ∙ sym h

one_pass : (changed : Bool) (code : List PlainBlock) (t u : Scan) → AfterPass changed code t → AfterPass changed code u
    → t ≡ u
one_pass true code t u a b = one_start code t u a b
one_pass false code t u a b = a ∙ sym b

one_block : (coming : List BlockAhead) (s : InBlock) (t u : Scan) → AfterBlock coming s t → AfterBlock coming s u
    → t ≡ u
one_block [] s t u a b = one_pass s.stand.changed (reverse (passed_with s)) t u a b
one_block (c ∷ cs) s t u a b = a ∙ sym b

-- the end of a block leads to one place
one_end : (s t u : Scan) → AfterEnd s t → AfterEnd s u → t ≡ u
one_end (Within s) t u a b = one_block s.coming s t u a.1 b.1
one_end (Finished code) t u a b = absurd a

-- at a finish no step begins, and where a pair is ready no block ends

finished : (c d : List PlainBlock) → Finished c ≡ Finished d → c ≡ d
finished c d e = cc

no_pair : (s : Scan) (c : List PlainBlock) (p : PlainPair) → Finished c ≡ s → pair_ready s ≡ Some p → ⊥
no_pair s c p e h = let n : None ≡ Some p = ap pair_ready e ∙ h in absurd (cc)

no_end : (s u : Scan) (c : List PlainBlock) → Finished c ≡ s → AfterEnd s u → ⊥
no_end s u c e h = subst (λ (r : Scan). AfterEnd r u) (sym e) h

not_both : (s u : Scan) (p : PlainPair) → pair_ready s ≡ Some p → AfterEnd s u → ⊥
not_both (Within s) u p e h =
    none_ready s.stand.done (subst (λ (xs : List Ahead). ready s.stand.done xs ≡ Some p) h.0 e)
  where
    none_ready : (done : List PlainInstr) → ready done [] ≡ Some p → ⊥
    none_ready [] i = absurd (cc)
    none_ready (d ∷ ds) i = absurd (cc)
not_both (Finished code) u p e h = h

same_pair : (s : Scan) (p q : PlainPair) → pair_ready s ≡ Some p → pair_ready s ≡ Some q → p ≡ q
same_pair s p q e h = let n : Some p ≡ Some q = sym e ∙ h in (cc)

-- the steps from one place to a finish are the same, and so is the finish
one_way : (answer : Answers) (s : Scan) (xs ys : List ScanStep) (c d : List PlainBlock) → Goes answer s xs (Finished c)
    → Goes answer s ys (Finished d) → (xs ≡ ys) × (c ≡ d)
one_way answer s [] [] c d g h = (refl, finished c d (g ∙ sym h))
one_way answer s [] (Tried p ∷ ys) c d g h = absurd (no_pair s c p g h.0)
one_way answer s [] (Ended ∷ ys) c d g h = absurd (no_end s h.0 c g h.1)
one_way answer s (Tried p ∷ xs) [] c d g h = absurd (no_pair s d p h g.0)
one_way answer s (Ended ∷ xs) [] c d g h = absurd (no_end s g.0 d h g.1)
one_way answer s (Tried p ∷ xs) (Ended ∷ ys) c d g h = absurd (not_both s h.0 p g.0 h.1)
one_way answer s (Ended ∷ xs) (Tried p ∷ ys) c d g h = absurd (not_both s g.0 p h.0 g.1)
one_way answer s (Tried p ∷ xs) (Tried q ∷ ys) c d g h =
    let same = same_pair s p q g.0 h.0 in
    let both = one_way answer (after_try (answer p) s) xs ys c d g.1
    (subst (λ (r : PlainPair). Goes answer (after_try (answer r) s) ys (Finished d)) (sym same) h.1) in
    (ap (λ (zs : List ScanStep). Tried p ∷ zs) both.0 ∙ ap (λ (r : PlainPair). Tried r ∷ ys) same, both.1)
one_way answer s (Ended ∷ xs) (Ended ∷ ys) c d g h =
    let same = one_end s h.0 g.0 h.1 g.1 in
    let both = one_way answer g.0 xs ys c d g.2 (subst (λ (r : Scan). Goes answer r ys (Finished d)) same h.2) in
    (ap (λ (zs : List ScanStep). Ended ∷ zs) both.0, both.1)

pub make_one_code : PassesMakeOneCode
make_one_code answer code c d ps qs (xs, (s, is, g), e) (ys, (t, also, h), f) =
    let both = one_way answer s xs ys c d g
    (subst (λ (r : Scan). Goes answer r ys (Finished d)) (one_start code t s also is) h) in
    (e ∙ ap tried both.0 ∙ sym f, both.1)
