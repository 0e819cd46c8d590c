-- Lists taken apart, and codes block by block.
use Rattle.std.proofs.Common.{◌≡◌, ℕ, ◌+◌, ◌-◌, ◌<◌, ◌≤◌, List, [], ◌∷◌, ◌++◌, length, drop, take, get_or, map, refl}
use Rattle.std.proofs.Common.{ap, sym, ◌∙◌, add-one, drop-cons, suc, length-append}
use Rattle.std.proofs.Math.ListN.{drop_of_length-le}
use Rattle.std.proofs.Math.Seq.{take-length}
use Rattle.std.proofs.lemmas.List.{length-drop, length-map}
use Rattle.po_term.specs.declared.transfer.Instr.{Instr}
use Rattle.po_term.specs.Moves.{instrs_of, PlainInstr}
use Rattle.po_model.specs.declared.code.Block.{Block}
use Rattle.po_model.specs.Blocks.{block_of}
use Rattle.po_model.specs.UnitCodes.{flat}

-- the next element, and those behind it
pub next_of : {X : Type 0} (xs : List X) (i : ℕ) (x : X) → i < length xs → x ≡ get_or xs i x → drop i xs ≡ x
    ∷ drop (i + 1) xs
next_of xs i x h e = rw (add-one, drop-cons xs i x h) (ap (λ y. y ∷ drop (suc i) xs) (sym e))

-- the same, where another element stands for one that isn't there
pub next_at : {X : Type 0} (xs : List X) (i : ℕ) (d x : X) → i < length xs → x ≡ get_or xs i d → drop i xs ≡ x
    ∷ drop (i + 1) xs
next_at xs i d x h e = rw (add-one, drop-cons xs i d h) (ap (λ y. y ∷ drop (suc i) xs) (sym e))

pub behind_all : {X : Type 0} (xs : List X) (i : ℕ) → length xs ≤ i → drop i xs ≡ []
behind_all xs i h = drop_of_length-le xs h

-- what a slice from a place on holds
pub rest_whole : {X : Type 0} (xs : List X) (n : ℕ) → take (length xs - n) (drop n xs) ≡ drop n xs
rest_whole xs n = let e : length (drop n xs) ≡ length xs - n = length-drop n xs in rw (← e) (take-length (drop n xs))

-- the instructions of blocks
abbrev pub all_of : List Block → List PlainInstr
all_of bs = flat (map block_of bs)

pub block_next : (bs : List Block) (i : ℕ) (b : Block) → i < length bs → b ≡ get_or bs i b → all_of (drop i bs)
    ≡ instrs_of b.instrs.items ++ all_of (drop (i + 1) bs)
block_next bs i b h e = ap all_of (next_of bs i b h e)

pub block_count : (bs : List Block) (i : ℕ) (b : Block) (is : List Instr) → i < length bs → b ≡ get_or bs i b
    → is ≡ b.instrs.items →
    length (all_of (drop i bs)) ≡ length is + length (all_of (drop (i + 1) bs))
block_count bs i b is h e same =
    ap (λ (xs : List PlainInstr). length xs) (block_next bs i b h e) ∙ length-append (instrs_of b.instrs.items)
    (all_of (drop (i + 1) bs)) ∙
    rw (same, length-map) refl
