-- Whether cc is live, by flags.
use Rattle.std.proofs.Common.{◌≡◌, ℕ, zero, suc, ◌+◌, ◌<◌, ◌≤◌, Bool, true, false, List, [], ◌∷◌, ◌++◌, length, drop}
use Rattle.std.proofs.Common.{drop-cons, map, replicate, reverse, refl, sym, ◌∙◌, ap, arith, slice_index_or}
use Rattle.std.specs.Prelude.{not, ◌||◌, ◌&&◌, ◌↔◌, IsTrue}
use Rattle.std.specs.List.{list_any}
use Rattle.std.specs.Global.{Vec}
use Rattle.std.proofs.lemmas.Bool.{true≢false, false≢true}
use Rattle.std.proofs.lemmas.List.{reverse-append, length-map}
use mathlib.Core.Logic.{◌⊎◌, inl, inr}
use Rattle.po_term.specs.declared.transfer.Instr.{Instr}
use Rattle.po_term.specs.Tree.{Tree, Const, Leaf, Read, Unary, Binary}
use Rattle.po_term.specs.Terms.{Place, InReg, AtSym}
use Rattle.po_term.specs.Moves.{instr_of, instrs_of, PlainInstr}
use Rattle.po_model.specs.declared.code.Block.{Block}
use Rattle.po_live.specs.declared.sets.LiveVars.{LiveVars}
use Rattle.po_model.specs.declared.var.Var.{Var}
use Rattle.po_model.specs.declared.var.Var.TheVariants.{Cc}
use Rattle.po_model.specs.Blocks.{PlainBlock, block_of, instrs_at, leads}
use Rattle.po_model.specs.LiveAfter.{term_reads, reads, sets, IsRead, LiveAfter}
use Rattle.po_live.specs.Sets.{holds_at}
use Rattle.po_live.specs.Sets.{back, nothing}
use Rattle.po_live.specs.Flags.{cc_before, cc_after, flag_at, flags_at}
use Rattle.po_live.proofs.Graphs.{instrs_there}
use Rattle.po_live.proofs.Instrs.{there_below}
use Rattle.po_live.proofs.Paths.{back_same, covers, reached}
use Rattle.po_live.proofs.Solved.{instrs_beyond}

-- a term reads registers alone
pub term_unread : (t : Tree ℕ Place) → term_reads t Cc ≡ false
term_unread (Const c) = refl
term_unread (Leaf (InReg r)) = refl
term_unread (Leaf (AtSym s)) = refl
term_unread (Read t) = term_unread t
term_unread (Unary o t) = term_unread t
term_unread (Binary o t u) = rw (term_unread t) (term_unread u)

pub terms_unread : (t u : Tree ℕ Place) → (term_reads t Cc || term_reads u Cc) ≡ false
terms_unread t u = rw (term_unread t) (term_unread u)

pub any_block : (bs : List Block)
    → list_any (λ b. cc_before b.instrs false) (map block_of bs)
    ≡ list_any (λ b. cc_before (instrs_of b.instrs.items) false) bs
any_block [] = refl
any_block (x ∷ xs) = ap (λ t. cc_before (instrs_of x.instrs.items) false || t) (any_block xs)

or_none : (a b : Bool) → (a || b) ≡ false → (a ≡ false) × (b ≡ false)
or_none true b e = absurd (true≢false e)
or_none false b e = (refl, e)

none_first : (code : List PlainBlock) → list_any (λ b. cc_before b.instrs false) code ≡ false → (q : ℕ)
    → cc_before (instrs_at code q) false ≡ false
none_first [] e q = refl
none_first (x ∷ xs) e zero = (or_none (cc_before x.instrs false) (list_any (λ b. cc_before b.instrs false) xs) e).0
none_first (x ∷ xs) e (suc q) =
    none_first xs (or_none (cc_before x.instrs false) (list_any (λ b. cc_before b.instrs false) xs) e).1 q

-- where no block reads cc before it sets it, cc is live at the end of none
pub dead_at_ends : (code : List PlainBlock) → list_any (λ b. cc_before b.instrs false) code ≡ false
    → (b : ℕ) (xs : List PlainInstr) → (cc_before xs false ≡ true) ↔ IsRead code Cc (record { block = b; rest = xs })
dead_at_ends code e b xs = (
  λ h. reached code (λ c. nothing) (λ c v f. absurd (false≢true f)) Cc b xs h,
  λ l. covers code (λ c. nothing) Cc closed l.0 b xs l.1,
)
  where
    closed : (c q : ℕ) → leads code c q ≡ true → back (instrs_at code q) nothing Cc ≡ true → nothing Cc ≡ true
    closed c q l h = absurd (true≢false (sym h ∙ none_first code e q))

flag_held : (sets : List LiveVars) (b : ℕ) → flag_at (map (λ l. l.cc) sets) b ≡ holds_at sets b Cc
flag_held [] b = refl
flag_held (x ∷ xs) zero = refl
flag_held (x ∷ xs) (suc b) = flag_held xs b

-- the flags of sets are live where the sets are
pub flags_read : (code : List PlainBlock) (sets : List LiveVars) (flags : List Bool) → flags ≡ map (λ l. l.cc) sets
    → ((b : ℕ) (xs : List PlainInstr) (q : Var)
    → (back xs (holds_at sets b) q ≡ true) ↔ IsRead code q (record { block = b; rest = xs }))
    → (b : ℕ) (xs : List PlainInstr)
    → (cc_before xs (flag_at flags b) ≡ true) ↔ IsRead code Cc (record { block = b; rest = xs })
flags_read code sets flags e r b xs = rw same (r b xs Cc)
  where
    same : cc_before xs (flag_at flags b) ≡ back xs (holds_at sets b) Cc
    same =
        back_same xs (λ v. flag_at flags b) (holds_at sets b) Cc
        (ap (λ (fs : List Bool). flag_at fs b) e ∙ flag_held sets b)

-- back through one more instruction
pub before_more : (xs : List Instr) (i j : ℕ) (d : Instr) (out live new : Bool) → j ≡ suc i → i < length xs
    → d ≡ slice_index_or xs i d → live ≡ cc_before (instrs_of (drop j xs)) out
    → new ≡ (reads (instr_of d) Cc || (not (sets (instr_of d) Cc) && live))
    → new ≡ cc_before (instrs_of (drop i xs)) out
before_more xs i j d out live new p h g e f =
    let e2 : live ≡ cc_before (instrs_of (drop (suc i) xs)) out =
    e ∙ ap (λ (k : ℕ). cc_before (instrs_of (drop k xs)) out) p in
    let here : drop i xs ≡ d ∷ drop (suc i) xs =
    drop-cons xs i d h ∙ ap (λ (x : Instr). x ∷ drop (suc i) xs) (sym g) in
    f ∙ ap (λ b. reads (instr_of d) Cc || (not (sets (instr_of d) Cc) && b)) e2
    ∙ sym (ap (λ (ys : List Instr). cc_before (instrs_of ys) out) here)

-- the flag of one more instruction, before the others
pub after_more : (xs : List Instr) (i j : ℕ) (d : Instr) (out live : Bool) (fs : List Bool) → j ≡ suc i → i < length xs
    → live ≡ cc_before (instrs_of (drop j xs)) out
    → reverse fs ≡ cc_after (instrs_of (drop j xs)) out
    → reverse (fs ++ live ∷ []) ≡ cc_after (instrs_of (drop i xs)) out
after_more xs i j d out live fs p h e f =
    let e2 : live ≡ cc_before (instrs_of (drop (suc i) xs)) out =
    e ∙ ap (λ (k : ℕ). cc_before (instrs_of (drop k xs)) out) p in
    let f2 : reverse fs ≡ cc_after (instrs_of (drop (suc i) xs)) out =
    f ∙ ap (λ (k : ℕ). cc_after (instrs_of (drop k xs)) out) p in
    reverse-append fs (live ∷ [])
    ∙ rw (e2, f2) (sym (ap (λ (ys : List Instr). cc_after (instrs_of ys) out) (drop-cons xs i d h)))

after_length : (xs : List PlainInstr) (live : Bool) → length (cc_after xs live) ≡ length xs
after_length [] live = refl
after_length (x ∷ xs) live = ap suc (after_length xs live)

after_at : (xs : List PlainInstr) (live : Bool) (i : ℕ) → i < length xs
    → flag_at (cc_after xs live) i ≡ cc_before (drop (suc i) xs) live
after_at [] live i h = absurd (omega arith)
after_at (x ∷ xs) live zero h = refl
after_at (x ∷ xs) live (suc i) h = after_at xs live i (omega arith)

flags_below : (vs : List (Vec Bool)) (n : Vec Bool) (b : ℕ) → b < length vs → flags_at (vs ++ n ∷ []) b ≡ flags_at vs b
flags_below [] n b h = absurd (omega arith)
flags_below (x ∷ xs) n zero h = refl
flags_below (x ∷ xs) n (suc b) h = flags_below xs n b (omega arith)

flags_behind : (vs : List (Vec Bool)) (n : Vec Bool) → flags_at (vs ++ n ∷ []) (length vs) ≡ n.items
flags_behind [] n = refl
flags_behind (x ∷ xs) n = flags_behind xs n

flags_beyond : (vs : List (Vec Bool)) (b : ℕ) → length vs ≤ b → flags_at vs b ≡ []
flags_beyond [] b h = refl
flags_beyond (x ∷ xs) zero h = absurd (omega arith)
flags_beyond (x ∷ xs) (suc b) h = flags_beyond xs b (omega arith)

-- one more block
pub blocks_more : (f : ℕ → List Bool) (vs : List (Vec Bool)) (n : Vec Bool) (b : ℕ) → length vs ≡ b
    → ((c : ℕ) → c < b → flags_at vs c ≡ f c) → n.items ≡ f b → (c : ℕ) → c < b + 1 → flags_at (vs ++ n ∷ []) c ≡ f c
blocks_more f vs n b e below here c h = go (cases c b h)
  where
    cases : (c b : ℕ) → c < b + 1 → (c ≡ b) ⊎ (c < b)
    cases c b h = grind arith

    go : (c ≡ b) ⊎ (c < b) → flags_at (vs ++ n ∷ []) c ≡ f c
    go (inl p) = ap (λ k. flags_at (vs ++ n ∷ []) k) (p ∙ sym e) ∙ flags_behind vs n ∙ here ∙ ap f (sym p)
    go (inr k) = flags_below vs n c (omega arith) ∙ below c k

flag_there : (fs : List Bool) (b : ℕ) (d : Bool) → b < length fs → slice_index_or fs b d ≡ flag_at fs b
flag_there [] b d h = absurd (omega arith)
flag_there (x ∷ xs) zero d h = refl
flag_there (x ∷ xs) (suc b) d h = flag_there xs b d (omega arith)

-- a block's instructions and its flag, by their places
pub after_there : (blocks : List Block) (out : List Bool) (b : ℕ) (d : Block) (f : Bool) (is : List Instr)
    (fs : List Bool) → b < length blocks → b < length out
    → is ≡ (slice_index_or blocks b d).instrs.items → fs ≡ cc_after (instrs_of is) (slice_index_or out b f)
    → fs ≡ cc_after (instrs_at (map block_of blocks) b) (flag_at out b)
after_there blocks out b d f is fs h k e a =
    a
    ∙ ap (λ xs. cc_after xs (slice_index_or out b f))
    (ap (λ (js : List Instr). instrs_of js) e ∙ sym (instrs_there blocks b d h))
    ∙ ap (λ l. cc_after (instrs_at (map block_of blocks) b) l) (flag_there out b f k)

module _ (code : List PlainBlock) (out : List Bool) (after : List (Vec Bool))
    (each : (b : ℕ) → b < length code → flags_at after b ≡ cc_after (instrs_at code b) (flag_at out b)) where
  pub flag_lengths : length after ≡ length code → (b : ℕ) → length (flags_at after b) ≡ length (instrs_at code b)
  flag_lengths e b = go (cases b (length code))
    where
      cases : (b n : ℕ) → (b < n) ⊎ (n ≤ b)
      cases b n = grind arith

      go : (b < length code) ⊎ (length code ≤ b) → length (flags_at after b) ≡ length (instrs_at code b)
      go (inl h) = ap (λ (fs : List Bool). length fs) (each b h) ∙ after_length (instrs_at code b) (flag_at out b)
      go (inr h) =
          ap (λ (fs : List Bool). length fs) (flags_beyond after b (omega (arith, e, h)))
          ∙ sym (ap (λ (is : List PlainInstr). length is) (instrs_beyond code b h))

  -- the flag after an instruction says whether cc is live there
  pub flag_lives : ((b : ℕ) (xs : List PlainInstr)
      → (cc_before xs (flag_at out b) ≡ true) ↔ IsRead code Cc (record { block = b; rest = xs })) → (b i : ℕ)
      → i < length (instrs_at code b) → IsTrue (flag_at (flags_at after b) i) ↔ LiveAfter code b i Cc
  flag_lives r b i h = (λ f. inr ((r b (drop (suc i) (instrs_at code b))).0 (sym same ∙ f)), back_there)
    where
      same : flag_at (flags_at after b) i ≡ cc_before (drop (suc i) (instrs_at code b)) (flag_at out b)
      same =
          ap (λ (fs : List Bool). flag_at fs i) (each b (there_below code b i h))
          ∙ after_at (instrs_at code b) (flag_at out b) i h

      back_there : LiveAfter code b i Cc → IsTrue (flag_at (flags_at after b) i)
      back_there (inl e) = (cc)
      back_there (inr e) = same ∙ (r b (drop (suc i) (instrs_at code b))).1 e

-- the flags of each block, where the blocks and what is live at their ends were lent
pub flags_lent : (blocks lent : List Block) (out lent_out : List Bool) (after : List (Vec Bool)) → lent ≡ blocks
    → lent_out ≡ out
    → ((b : ℕ) → b < length lent → flags_at after b ≡ cc_after (instrs_at (map block_of lent) b) (flag_at lent_out b))
    → (b : ℕ) → b < length (map block_of blocks)
    → flags_at after b ≡ cc_after (instrs_at (map block_of blocks) b) (flag_at out b)
flags_lent blocks lent out lent_out after p q a b h =
    rw (p, q) at (a b (omega (arith, h, length-map blocks block_of, ap (λ (bs : List Block). length bs) p)))

pub flags_down : (n b : ℕ) → flag_at (replicate n false) b ≡ false
flags_down zero b = refl
flags_down (suc n) zero = refl
flags_down (suc n) (suc b) = flags_down n b
