-- Codes block by block: what holds of the instructions of each block, and of two codes with the same labels.
use Rattle.std.proofs.Common.{◌≡◌, ℕ, zero, suc, ◌+◌, ◌<◌, List, [], ◌∷◌, ◌++◌, length, map, refl, sym, ◌∙◌, ap, arith}
use Rattle.std.proofs.Common.{length-append}
use Rattle.std.specs.Prelude.{All, Bool}
use mathlib.Core.Logic.{◌⊎◌, inl, inr}
use Rattle.std.proofs.lemmas.List.{length-map}
use Rattle.std.proofs.lemmas.List.Elements.{All-nil, All-cons, All-head, All-tail}
use Rattle.po_term.specs.declared.term.Label.{Label}
use Rattle.po_model.specs.declared.var.Var.{Var}
use Rattle.po_model.specs.Blocks.{PlainBlock, instrs_at, block_from}
use Rattle.po_model.specs.Scanned.{Ahead, instrs_ahead}
use Rattle.po_model.specs.UnitCodes.{flat}
use Rattle.po_slow.proofs.Onto.{onto}
use Rattle.po_slow.proofs.Passes.{label_of}
use Rattle.po_term.specs.Moves.{PlainInstr}

-- the instructions that are to come
abbrev pub instrs_in : List Ahead → List PlainInstr
instrs_in xs = map (λ x. x.instr) xs

-- the instructions of a block while it is scanned
abbrev pub whole : List PlainInstr → List Ahead → List PlainInstr
whole done rest = onto done (instrs_in rest)

pub ahead_instrs : (live : ℕ → Var → Bool) (i : ℕ) (xs : List PlainInstr) → instrs_in (instrs_ahead live i xs) ≡ xs
ahead_instrs live i [] = refl
ahead_instrs live i (x ∷ xs) = ap (λ z. x ∷ z) (ahead_instrs live (suc i) xs)

pub block_at : (Q : List PlainInstr → Type 0) (code : List PlainBlock) (b : ℕ) → b < length code
    → All (λ b. Q b.instrs) code → Q (instrs_at code b)
block_at Q [] b lt h = absurd (omega arith)
block_at Q (x ∷ xs) zero lt h = All-head (λ (b : PlainBlock). Q b.instrs) x xs h
block_at Q (x ∷ xs) (suc b) lt h = block_at Q xs b (omega arith) (All-tail (λ (b : PlainBlock). Q b.instrs) x xs h)

pub all_blocks : (Q : List PlainInstr → Type 0) (code : List PlainBlock)
    → ((b : ℕ) → b < length code → Q (instrs_at code b)) → All (λ b. Q b.instrs) code
all_blocks Q [] h = All-nil (λ (b : PlainBlock). Q b.instrs)
all_blocks Q (x ∷ xs) h =
    All-cons (λ (b : PlainBlock). Q b.instrs) x xs (h zero (omega arith))
    (all_blocks Q xs (λ b lt. h (suc b) (omega arith)))

pub same_length : (xs ys : List PlainBlock) → map label_of xs ≡ map label_of ys → length xs ≡ length ys
same_length xs ys e = sym (length-map xs label_of) ∙ ap length e ∙ length-map ys label_of

-- of two codes with the same labels, where each block is the same or has fewer instructions
pub same_blocks : (xs ys : List PlainBlock) → map label_of xs ≡ map label_of ys
    → ((b : ℕ) → b < length ys
    → (instrs_at xs b ≡ instrs_at ys b) ⊎ (length (instrs_at xs b) < length (instrs_at ys b)))
    → (xs ≡ ys) ⊎ (length (flat xs) < length (flat ys))
same_blocks [] [] e h = inl refl
same_blocks [] (y ∷ ys) e h = absurd (cc)
same_blocks (x ∷ xs) [] e h = absurd (cc)
same_blocks (x ∷ xs) (y ∷ ys) e h =
    let first : x.label ≡ y.label = (cc) in
    let rest : map label_of xs ≡ map label_of ys = (cc) in
    go first (h zero (omega arith)) (same_blocks xs ys rest (λ b lt. h (suc b) (omega arith)))
  where
    left : length (x.instrs ++ flat xs) ≡ length x.instrs + length (flat xs)
    left = length-append x.instrs (flat xs)

    right : length (y.instrs ++ flat ys) ≡ length y.instrs + length (flat ys)
    right = length-append y.instrs (flat ys)

    whole_block : x.label ≡ y.label → x.instrs ≡ y.instrs → x ≡ y
    whole_block l i =
        ap (λ z. record { label = z; instrs = x.instrs }) l ∙ ap (λ z. record { label = y.label; instrs = z }) i

    go : x.label ≡ y.label → (x.instrs ≡ y.instrs) ⊎ (length x.instrs < length y.instrs)
        → (xs ≡ ys) ⊎ (length (flat xs) < length (flat ys))
        → (x ∷ xs ≡ y ∷ ys) ⊎ (length (x.instrs ++ flat xs) < length (y.instrs ++ flat ys))
    go l (inl i) (inl t) = inl (ap (λ z. z ∷ xs) (whole_block l i) ∙ ap (λ z. y ∷ z) t)
    go l (inl i) (inr t) = inr (let n = ap length i in omega (arith, left, right, n, t))
    go l (inr i) (inl t) =
        inr (let n = ap (λ (c : List PlainBlock). length (flat c)) t in omega (arith, left, right, n, i))
    go l (inr i) (inr t) = inr (omega (arith, left, right, i, t))

-- a fact of the instructions of each block, and of none
pub each_block : (Q : List PlainInstr → Type 0) → Q [] → (code : List PlainBlock) (b : ℕ) → All (λ b. Q b.instrs) code
    → Q (instrs_at code b)
each_block Q none [] b h = none
each_block Q none (x ∷ xs) zero h = All-head (λ (b : PlainBlock). Q b.instrs) x xs h
each_block Q none (x ∷ xs) (suc b) h = each_block Q none xs b (All-tail (λ (b : PlainBlock). Q b.instrs) x xs h)

-- the block of a label depends on the labels alone
pub label_block : (n : ℕ) (xs ys : List PlainBlock) (l : Label) → map label_of xs ≡ map label_of ys
    → block_from n xs l ≡ block_from n ys l
label_block n [] [] l e = refl
label_block n [] (y ∷ ys) l e = absurd (cc)
label_block n (x ∷ xs) [] l e = absurd (cc)
label_block n (x ∷ xs) (y ∷ ys) l e =
    let first : x.label ≡ y.label = (cc) in
    let rest : map label_of xs ≡ map label_of ys = (cc) in
    rw (first, label_block (suc n) xs ys l rest) refl
