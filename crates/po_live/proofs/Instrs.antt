-- The sets of a block's instructions, one by one, are what is live after them.
use Rattle.std.proofs.Common.{◌≡◌, ℕ, zero, suc, ◌+◌, ◌<◌, ◌≤◌, Bool, true, false, List, [], ◌∷◌, ◌++◌, length, drop}
use Rattle.std.proofs.Common.{map, reverse, refl, sym, ◌∙◌, ap, subst, arith, slice_index_or}
use Rattle.std.specs.Prelude.{not, ◌||◌, ◌&&◌, ◌↔◌, IsTrue}
use Rattle.std.specs.Global.{Vec}
use Rattle.std.proofs.lemmas.List.{reverse-append, length-map}
use Rattle.po_model.specs.declared.code.Block.{Block}
use Rattle.std.proofs.lemmas.Bool.{or_cases}
use mathlib.Core.Logic.{◌⊎◌, inl, inr}
use Rattle.po_term.specs.declared.term.Reg.TheVariants.{Fp}
use Rattle.po_term.specs.declared.transfer.Instr.{Instr}
use Rattle.po_term.specs.Moves.{instr_of, instrs_of, PlainInstr}
use Rattle.std.proofs.Common.{drop-cons}
use Rattle.po_model.specs.declared.pair.Live.{Live}
use Rattle.po_model.specs.declared.var.Var.{Var}
use Rattle.po_model.specs.declared.var.Var.TheVariants.{Reg}
use Rattle.po_model.specs.Blocks.{PlainBlock, block_of, instrs_at}
use Rattle.po_model.specs.LiveAfter.{reads, sets, IsRead, IsLive, LiveAfter}
use Rattle.po_model.specs.LiveSets.{holds as in_set, holds_at as in_set_at, lives_at}
use Rattle.po_live.specs.declared.sets.LiveVars.{LiveVars}
use Rattle.po_live.specs.Sets.{is_fp, back, AreAfter, holds, holds_at}
use mathlib.Core.Path.{fun_ext}
use Rattle.po_live.proofs.Graphs.{instrs_there}
use Rattle.po_live.proofs.Outs.{set_at}
use Rattle.po_live.proofs.Fuel.{var_eq_true}
use Rattle.po_live.proofs.Solved.{or_left, or_right, instrs_beyond}

pub after_length : (xs : List PlainInstr) (live : Var → Bool) (ls : List Live) → AreAfter xs live ls
    → length ls ≡ length xs
after_length [] live [] a = refl
after_length [] live (l ∷ ls) a = absurd a
after_length (x ∷ xs) live [] a = absurd a
after_length (x ∷ xs) live (l ∷ ls) a = ap suc (after_length xs live ls a.1)

pub after_at : (xs : List PlainInstr) (live : Var → Bool) (ls : List Live) → AreAfter xs live ls → (i : ℕ) (v : Var)
    → i < length xs → in_set_at ls i v ≡ (is_fp v || back (drop (suc i) xs) live v)
after_at [] live ls a i v h = absurd (omega arith)
after_at (x ∷ xs) live [] a i v h = absurd a
after_at (x ∷ xs) live (l ∷ ls) a zero v h = a.0 v
after_at (x ∷ xs) live (l ∷ ls) a (suc i) v h = after_at xs live ls a.1 i v (omega arith)

-- fp, or what is read on a path
pub fp_or_read : (code : List PlainBlock) (b : ℕ) (v : Var) (xs : List PlainInstr) (live : Var → Bool) (held : Bool)
    → held ≡ (is_fp v || back xs live v) → ((back xs live v ≡ true) ↔ IsRead code v (record { block = b; rest = xs }))
    → IsTrue held ↔ IsLive code v (record { block = b; rest = xs })
fp_or_read code b v xs live held e r = (there, back_there)
  where
    go : (is_fp v ≡ true) ⊎ (back xs live v ≡ true) → IsLive code v (record { block = b; rest = xs })
    go (inl f) = inl (sym (var_eq_true (Reg Fp) v f))
    go (inr f) = inr (r.0 f)

    there : IsTrue held → IsLive code v (record { block = b; rest = xs })
    there h = go (or_cases (is_fp v) (back xs live v) (sym e ∙ h))

    back_there : IsLive code v (record { block = b; rest = xs }) → IsTrue held
    back_there (inl f) = e ∙ or_left (is_fp v) (back xs live v) (ap is_fp f)
    back_there (inr f) = e ∙ or_right (is_fp v) (back xs live v) (r.1 f)

pub lives_below : (ls : List (Vec Live)) (n : Vec Live) (b : ℕ) → b < length ls
    → lives_at (ls ++ n ∷ []) b ≡ lives_at ls b
lives_below [] n b h = absurd (omega arith)
lives_below (x ∷ xs) n zero h = refl
lives_below (x ∷ xs) n (suc b) h = lives_below xs n b (omega arith)

pub lives_behind : (ls : List (Vec Live)) (n : Vec Live) → lives_at (ls ++ n ∷ []) (length ls) ≡ n.items
lives_behind [] n = refl
lives_behind (x ∷ xs) n = lives_behind xs n

pub lives_beyond : (ls : List (Vec Live)) (b : ℕ) → length ls ≤ b → lives_at ls b ≡ []
lives_beyond [] b h = refl
lives_beyond (x ∷ xs) zero h = absurd (omega arith)
lives_beyond (x ∷ xs) (suc b) h = lives_beyond xs b (omega arith)

-- one more block
pub blocks_more : (code : List PlainBlock) (out : ℕ → Var → Bool) (ls : List (Vec Live)) (n : Vec Live) (b : ℕ)
    → length ls ≡ b → ((c : ℕ) → c < b → AreAfter (instrs_at code c) (out c) (lives_at ls c))
    → AreAfter (instrs_at code b) (out b) n.items → (c : ℕ) → c < b + 1
    → AreAfter (instrs_at code c) (out c) (lives_at (ls ++ n ∷ []) c)
blocks_more code out ls n b e below here c h = go (cases c b h)
  where
    cases : (c b : ℕ) → c < b + 1 → (c ≡ b) ⊎ (c < b)
    cases c b h = grind arith

    go : (c ≡ b) ⊎ (c < b) → AreAfter (instrs_at code c) (out c) (lives_at (ls ++ n ∷ []) c)
    go (inl p) =
        let at : lives_at (ls ++ n ∷ []) b ≡ n.items =
        ap (λ k. lives_at (ls ++ n ∷ []) k) (sym e) ∙ lives_behind ls n in
        subst (λ (k : ℕ). AreAfter (instrs_at code k) (out k) (lives_at (ls ++ n ∷ []) k)) (sym p)
        (subst (λ (ms : List Live). AreAfter (instrs_at code b) (out b) ms) (sym at) here)
    go (inr k) =
        subst (λ (ms : List Live). AreAfter (instrs_at code c) (out c) ms) (sym (lives_below ls n c (omega arith)))
        (below c k)

-- the lengths of all blocks
pub all_lengths : (code : List PlainBlock) (out : ℕ → Var → Bool) (ls : List (Vec Live)) → length ls ≡ length code
    → ((b : ℕ) → b < length code → AreAfter (instrs_at code b) (out b) (lives_at ls b)) → (b : ℕ)
    → length (lives_at ls b) ≡ length (instrs_at code b)
all_lengths code out ls e a b = go (cases b (length code))
  where
    cases : (b n : ℕ) → (b < n) ⊎ (n ≤ b)
    cases b n = grind arith

    go : (b < length code) ⊎ (length code ≤ b) → length (lives_at ls b) ≡ length (instrs_at code b)
    go (inl h) = after_length (instrs_at code b) (out b) (lives_at ls b) (a b h)
    go (inr h) =
        ap (λ (ms : List Live). length ms) (lives_beyond ls b (omega arith))
        ∙ sym (ap (λ (is : List PlainInstr). length is) (instrs_beyond code b h))

pub there_below : (code : List PlainBlock) (b i : ℕ) → i < length (instrs_at code b) → b < length code
there_below [] b i h = absurd (omega arith)
there_below (x ∷ xs) zero i h = omega arith
there_below (x ∷ xs) (suc b) i h = let k = there_below xs b i h in omega arith

-- one more instruction before the others
pub after_more : (xs : List Instr) (i j : ℕ) (d : Instr) (out : Var → Bool) (all : Live) (ls : List Live) → j ≡ suc i
    → i < length xs → ((q : Var) → in_set all q ≡ (is_fp q || back (instrs_of (drop j xs)) out q))
    → AreAfter (instrs_of (drop j xs)) out (reverse ls)
    → AreAfter (instrs_of (drop i xs)) out (reverse (ls ++ all ∷ []))
after_more xs i j d out all ls p h e a =
    let e2 : (q : Var) → in_set all q ≡ (is_fp q || back (instrs_of (drop (suc i) xs)) out q) =
    subst (λ (k : ℕ). (q : Var) → in_set all q ≡ (is_fp q || back (instrs_of (drop k xs)) out q)) p e in
    let a2 : AreAfter (instrs_of (drop (suc i) xs)) out (reverse ls) =
    subst (λ (k : ℕ). AreAfter (instrs_of (drop k xs)) out (reverse ls)) p a in
    rw (drop-cons xs i d, reverse-append ls (all ∷ [])) (e2, a2)

-- what is live after each instruction of a code
pub lives_are : (blocks : List Block) (out : List LiveVars) (after : List (Vec Live))
    → ((b : ℕ) (xs : List PlainInstr) (q : Var)
    → (back xs (holds_at out b) q ≡ true) ↔ IsRead (map block_of blocks) q (record { block = b; rest = xs }))
    → ((b : ℕ) → b < length blocks → AreAfter (instrs_at (map block_of blocks) b) (holds_at out b) (lives_at after b))
    → (b i : ℕ) (v : Var) → i < length (instrs_at (map block_of blocks) b)
    → IsTrue (in_set_at (lives_at after b) i v) ↔ LiveAfter (map block_of blocks) b i v
lives_are blocks out after r a b i v h =
    let there : b < length blocks =
    omega (arith, there_below (map block_of blocks) b i h, length-map blocks block_of) in
    fp_or_read (map block_of blocks) b v (drop (suc i) (instrs_at (map block_of blocks) b)) (holds_at out b)
    (in_set_at (lives_at after b) i v)
    (after_at (instrs_at (map block_of blocks) b) (holds_at out b) (lives_at after b) (a b there) i v h)
    (r b (drop (suc i) (instrs_at (map block_of blocks) b)) v)

pub lengths_are : (blocks : List Block) (out : List LiveVars) (after : List (Vec Live)) → length after ≡ length blocks
    → ((b : ℕ) → b < length blocks → AreAfter (instrs_at (map block_of blocks) b) (holds_at out b) (lives_at after b))
    → (b : ℕ) → length (lives_at after b) ≡ length (instrs_at (map block_of blocks) b)
lengths_are blocks out after e a =
    all_lengths (map block_of blocks) (holds_at out) after (e ∙ sym (length-map blocks block_of))
    (λ b h. a b (omega (arith, h, length-map blocks block_of)))

fp_again : (f r s b : Bool) → (f || (r || (not s && (f || b)))) ≡ (f || (r || (not s && b)))
fp_again true r s b = refl
fp_again false r s b = refl

-- back through one more instruction
pub live_more : (xs : List Instr) (i j : ℕ) (d : Instr) (out live new : Var → Bool) → j ≡ suc i → i < length xs
    → d ≡ slice_index_or xs i d → ((q : Var) → live q ≡ (is_fp q || back (instrs_of (drop j xs)) out q))
    → ((q : Var) → new q ≡ (is_fp q || (reads (instr_of d) q || (not (sets (instr_of d) q) && live q)))) → (q : Var)
    → new q ≡ (is_fp q || back (instrs_of (drop i xs)) out q)
live_more xs i j d out live new p h g e f q =
    let e2 : live q ≡ (is_fp q || back (instrs_of (drop (suc i) xs)) out q) =
    e q ∙ ap (λ (k : ℕ). is_fp q || back (instrs_of (drop k xs)) out q) p in
    let cut : drop i xs ≡ d ∷ drop (suc i) xs = drop-cons xs i d h ∙ ap (λ (x : Instr). x ∷ drop (suc i) xs) (sym g) in
    f q ∙ ap (λ b. is_fp q || (reads (instr_of d) q || (not (sets (instr_of d) q) && b))) e2
    ∙ fp_again (is_fp q) (reads (instr_of d) q) (sets (instr_of d) q) (back (instrs_of (drop (suc i) xs)) out q)
    ∙ sym (ap (λ (ys : List Instr). is_fp q || back (instrs_of ys) out q) cut)

-- a block's instructions and its set, by their places
pub after_there : (blocks : List Block) (outs : List LiveVars) (b : ℕ) (d : Block) (l : LiveVars) (is : List Instr)
    (ls : List Live) → b < length blocks → b < length outs → is ≡ (slice_index_or blocks b d).instrs.items
    → l ≡ slice_index_or outs b l → AreAfter (instrs_of is) (holds l) ls
    → AreAfter (instrs_at (map block_of blocks) b) (holds_at outs b) ls
after_there blocks outs b d l is ls h k e i a =
    let there : instrs_of is ≡ instrs_at (map block_of blocks) b =
    ap (λ (js : List Instr). instrs_of js) e ∙ sym (instrs_there blocks b d h) in
    let held : holds l ≡ holds_at outs b = fun_ext (λ v. set_at outs b l v k i) in
    subst (λ (xs : List PlainInstr). AreAfter xs (holds_at outs b) ls) there
    (subst (λ (f : Var → Bool). AreAfter (instrs_of is) f ls) held a)

-- the same where the blocks and the sets were lent
module _ (blocks lent lent2 : List Block) (out out2 : List LiveVars) (after : List (Vec Live)) (p : lent ≡ blocks)
    (q : lent2 ≡ blocks) (o : out2 ≡ out)
    (a : (b : ℕ) → b < length lent2
    → AreAfter (instrs_at (map block_of lent2) b) (holds_at out2 b) (lives_at after b)) where
  after_lent : (b : ℕ) → b < length blocks
      → AreAfter (instrs_at (map block_of blocks) b) (holds_at out b) (lives_at after b)
  after_lent =
      subst (λ (ls : List LiveVars). (b : ℕ) → b < length blocks
      → AreAfter (instrs_at (map block_of blocks) b) (holds_at ls b) (lives_at after b)) o
      (subst (λ (bs : List Block).
      (b : ℕ) → b < length bs → AreAfter (instrs_at (map block_of bs) b) (holds_at out2 b) (lives_at after b)) q a)

  pub code_lives : ((b : ℕ) (xs : List PlainInstr) (v : Var)
      → (back xs (holds_at out b) v ≡ true) ↔ IsRead (map block_of lent) v (record { block = b; rest = xs }))
      → (b i : ℕ) (v : Var) → i < length (instrs_at (map block_of blocks) b)
      → IsTrue (in_set_at (lives_at after b) i v) ↔ LiveAfter (map block_of blocks) b i v
  code_lives r =
      lives_are blocks out after
      (subst (λ (bs : List Block). (b : ℕ) (xs : List PlainInstr) (v : Var)
      → (back xs (holds_at out b) v ≡ true) ↔ IsRead (map block_of bs) v (record { block = b; rest = xs })) p r)
      after_lent

  pub code_lengths : length after ≡ length lent2 → (b : ℕ)
      → length (lives_at after b) ≡ length (instrs_at (map block_of blocks) b)
  code_lengths e = lengths_are blocks out after (e ∙ ap (λ (bs : List Block). length bs) q) after_lent
