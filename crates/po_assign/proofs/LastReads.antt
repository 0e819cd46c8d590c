-- The last reads of a code, read from front to back.
use Rattle.std.proofs.Common.{◌≡◌, ℕ, ◌+◌, ◌*◌, ◌<◌, ◌≤◌, List, [], ◌∷◌, ◌++◌, length, get_or, drop, refl, sym, ap}
use Rattle.std.proofs.Common.{◌∙◌, suc, arith, Bool, true, false, cond, ◌||◌, max, add-zero}
use Rattle.std.proofs.lemmas.List.{length-map}
use Rattle.po_term.specs.declared.transfer.Transfer.{Transfer}
use Rattle.po_term.specs.declared.transfer.Instr.{Instr}
use Rattle.po_term.specs.Moves.{move_of, moves_of, instr_of, instrs_of, PlainInstr}
use Rattle.po_term.specs.declared.term.Reg.TheVariants.{Virt}
use Rattle.po_model.specs.declared.code.Block.{Block}
use Rattle.po_model.specs.declared.var.Var.TheVariants.{Reg}
use Rattle.po_model.specs.LiveAfter.{move_reads, reads}
use Rattle.po_model.specs.Placement.{last_read}
use Rattle.po_assign.proofs.Lists.{next_of, behind_all, all_of, block_next}

twice : (a b : Bool) (point last : ℕ) → cond b point (cond a point last) ≡ cond (a || b) point last
twice true true point last = refl
twice true false point last = refl
twice false b point last = refl

-- the next transfer is read, and then those behind it
pub transfer_next : (xs : List Transfer) (j : ℕ) (t : Transfer) (v point last after : ℕ) → j < length xs
    → t ≡ get_or xs j t →
    after ≡ cond (move_reads (move_of t) (Reg (Virt v))) point last →
    cond (reads (moves_of (drop (j + 1) xs)) (Reg (Virt v))) point after
    ≡ cond (reads (moves_of (drop j xs)) (Reg (Virt v))) point last
transfer_next xs j t v point last after h e read =
    rw (next_of xs j t h e, read) (twice (move_reads (move_of t) (Reg (Virt v)))
    (reads (moves_of (drop (j + 1) xs)) (Reg (Virt v))) point last)

pub transfers_end : (xs : List Transfer) (j v point last : ℕ) → length xs ≤ j
    → cond (reads (moves_of (drop j xs)) (Reg (Virt v))) point last ≡ last
transfers_end xs j v point last h = rw (behind_all xs j h) refl

pub instr_next : (xs : List Instr) (j : ℕ) (x : Instr) (v first last after : ℕ) → j < length xs → x ≡ get_or xs j x →
    after ≡ cond (reads (instr_of x) (Reg (Virt v))) (2 * (first + j)) last →
    last_read v after (first + (j + 1)) (instrs_of (drop (j + 1) xs)) ≡ last_read v last (first + j)
    (instrs_of (drop j xs))
instr_next xs j x v first last after h e read =
    let number : first + (j + 1) ≡ suc (first + j) = omega arith in
    rw (next_of xs j x h e, read, number) refl

pub instrs_end : (xs : List Instr) (j v first last : ℕ) → length xs ≤ j → last_read v last (first + j)
    (instrs_of (drop j xs)) ≡ last
instrs_end xs j v first last h = rw (behind_all xs j h) refl

pub last_read-append : (v last p : ℕ) (xs ys : List PlainInstr) → last_read v last p (xs ++ ys) ≡ last_read v
    (last_read v last p xs) (p + length xs) ys
last_read-append v last p [] ys = rw (add-zero p) refl
last_read-append v last p (x ∷ xs) ys =
    let number : p + length (x ∷ xs) ≡ suc p + length xs = omega arith in
    rw number (last_read-append v (cond (reads x (Reg (Virt v))) (2 * p) last) (suc p) xs ys)

pub block_read : (bs : List Block) (j : ℕ) (b : Block) (v first last : ℕ) (is : List PlainInstr) → j < length bs
    → b ≡ get_or bs j b → is ≡ instrs_of b.instrs.items →
    last_read v (last_read v last first is) (first + length is) (all_of (drop (j + 1) bs)) ≡ last_read v last first
    (all_of (drop j bs))
block_read bs j b v first last is h e same = rw (block_next bs j b h e, same)
    (sym (last_read-append v last first (instrs_of b.instrs.items) (all_of (drop (j + 1) bs))))

pub blocks_end : (bs : List Block) (j v first last : ℕ) → length bs ≤ j → last_read v last first (all_of (drop j bs))
    ≡ last
blocks_end bs j v first last h = rw (behind_all bs j h) refl

-- a last read comes at the point of one of the instructions, or is the one that was there
pub read_later : (v last p : ℕ) (is : List PlainInstr) → last ≤ 2 * p → last ≤ last_read v last p is
read_later v last p [] h = omega arith
read_later v last p (i ∷ is) h = one (reads i (Reg (Virt v))) v last p is h
    (read_later v (2 * p) (suc p) is (omega arith)) (read_later v last (suc p) is (omega arith)) where
      one : (b : Bool) (v last p : ℕ) (is : List PlainInstr) → last ≤ 2 * p → 2 * p ≤ last_read v (2 * p) (suc p) is
          → last ≤ last_read v last (suc p) is → last ≤ last_read v (cond b (2 * p) last) (suc p) is
      one true v last p is h a b = omega arith
      one false v last p is h a b = b

-- a later point than the one that was there
read_from : (v d e q : ℕ) (is : List PlainInstr) → d ≤ e → e ≤ 2 * q → last_read v e q is ≡ max e (last_read v d q is)
read_from v d e q [] h k = omega arith
read_from v d e q (i ∷ is) h k = one (reads i (Reg (Virt v))) v d e q is k
    (read_later v (2 * q) (suc q) is (omega arith)) (read_from v d e (suc q) is h (omega arith)) where
      one : (b : Bool) (v d e q : ℕ) (is : List PlainInstr) → e ≤ 2 * q → 2 * q ≤ last_read v (2 * q) (suc q) is
          → last_read v e (suc q) is ≡ max e (last_read v d (suc q) is) →
          last_read v (cond b (2 * q) e) (suc q) is ≡ max e (last_read v (cond b (2 * q) d) (suc q) is)
      one true v d e q is k a b = omega arith
      one false v d e q is k a b = b

-- whether or not the next instruction reads, what is read from its point on is read behind it
pub read_behind : (v p : ℕ) (i : PlainInstr) (is : List PlainInstr) → last_read v (2 * p) p (i ∷ is) ≡ last_read v
    (2 * p) (suc p) is
read_behind v p i is = one (reads i (Reg (Virt v))) where
  one : (b : Bool) → last_read v (cond b (2 * p) (2 * p)) (suc p) is ≡ last_read v (2 * p) (suc p) is
  one true = refl
  one false = refl

-- the whole code's last read tells that behind an instruction
pub read_rest : (v p whole : ℕ) (is : List PlainInstr) → max (2 * p) whole ≡ last_read v (2 * p) (suc p) is
    → max (2 * p + 1) whole ≡ last_read v (2 * p + 1) (suc p) is
read_rest v p whole is h = let e = read_from v (2 * p) (2 * p + 1) (suc p) is (omega arith) (omega arith) in
    omega (arith, e, h)

pub read_step : (v p whole : ℕ) (is : List PlainInstr) → max (2 * p) whole ≡ last_read v (2 * p) (suc p) is
    → max (2 * suc p) whole ≡ last_read v (2 * suc p) (suc p) is
read_step v p whole is h = let e = read_from v (2 * p) (2 * suc p) (suc p) is (omega arith) (omega arith) in
    omega (arith, e, h)

-- a block is read
pub block_turn : (bs : List Block) (j : ℕ) (b : Block) (v first last after count whole : ℕ) (is : List Instr)
    → j < length bs → b ≡ get_or bs j b → is ≡ b.instrs.items →
    after ≡ last_read v last first (instrs_of is) → count ≡ length is → last_read v last first (all_of (drop j bs))
    ≡ whole →
    last_read v after (first + count) (all_of (drop (j + 1) bs)) ≡ whole
block_turn bs j b v first last after count whole is h e same read counted before =
    let long : length (instrs_of is) ≡ length is = length-map is instr_of in
    rw (read, counted, ← long) (block_read bs j b v first last (instrs_of is) h e (ap instrs_of same) ∙ before)
