-- What is live after each instruction of a code, as parts of one list of registers.
use Rattle.std.specs.Prelude.{ℕ, zero, suc, ◌≡◌, ◌+◌, ◌-◌, ◌<◌, ◌≤◌, Bool, false, ◌||◌, List, [], ◌∷◌, length, drop}
use Rattle.std.specs.Prelude.{All, slice_range}
use Rattle.po_term.specs.declared.term.Reg.{Reg as Register}
use Rattle.po_term.specs.Moves.{PlainInstr}
use Rattle.po_model.specs.declared.var.Var.{Var}
use Rattle.po_model.specs.Blocks.{PlainBlock, instrs_at}
use Rattle.po_live.specs.declared.parts.Part.{Part}
use Rattle.po_live.specs.declared.parts.LiveAt.{LiveAt}
use Rattle.po_live.specs.declared.parts.LiveList.{LiveList}
use Rattle.po_live.specs.Sets.{among, is_fp, back, nothing}

-- what is live at a place
abbrev pub live_in : LiveAt → Var → Bool
live_in a v = among a.regs.now a.cc v

-- what a part of the list of registers rs says
abbrev pub part_tells : List Register → Part → Var → Bool
part_tells rs p v = among (slice_range rs p.from p.to) p.has_cc v

-- what the part at a place says
abbrev pub tells_at : List Register → List Part → ℕ → Var → Bool
tells_at rs [] k v = false
tells_at rs (p ∷ ps) zero v = part_tells rs p v
tells_at rs (p ∷ ps) (suc k) v = tells_at rs ps k v

-- where the parts of the block b end, and where they begin
abbrev pub end_at : List ℕ → ℕ → ℕ
end_at [] b = 0
end_at (n ∷ ns) zero = n
end_at (n ∷ ns) (suc b) = end_at ns b

abbrev pub start_at : List ℕ → ℕ → ℕ
start_at ns zero = 0
start_at ns (suc b) = end_at ns b

-- how many blocks a list is of, and how many instructions of the block b
abbrev pub blocks_in : LiveList → ℕ
blocks_in l = length l.ends.items

abbrev pub parts_in : LiveList → ℕ → ℕ
parts_in l b = end_at l.ends.items b - start_at l.ends.items b

-- whether v is live after the instruction i of the block b: the part of a block's last instruction stands first
abbrev pub tells : LiveList → ℕ → ℕ → Var → Bool
tells l b i v = tells_at l.regs.items l.parts.items (end_at l.ends.items b - suc i) v

-- a part of a list of n registers
pub record IsPart (n : ℕ) (p : Part) : Type 0 where
  pub order : p.from ≤ p.to
  pub inside : p.to ≤ n

-- each part is one of the list of registers, and the parts of each block are there
pub record IsLiveList (l : LiveList) : Type 0 where
  pub parts : All (IsPart (length l.regs.items)) l.parts.items
  pub ends : All (λ n. n ≤ length l.parts.items) l.ends.items

-- the first n instructions of the block b have their parts
pub record HasParts (l : LiveList) (b n : ℕ) : Type 0 where
  pub list : IsLiveList l
  pub block : b < blocks_in l
  pub parts : n ≤ parts_in l b

-- what is live after each of xs, from what is live behind them, has been put behind what was there
pub record IsGrown (rs : List Register) (ps : List Part) (rs' : List Register) (ps' : List Part)
    (xs : List PlainInstr) (out : Var → Bool) : Type 0 where
  pub count : length ps' ≡ length ps + length xs
  pub parts : All (IsPart (length rs')) ps'
  pub kept : (k : ℕ) (v : Var) → k < length ps → tells_at rs' ps' k v ≡ tells_at rs ps k v
  pub after : (i : ℕ) (v : Var) → i < length xs
      → tells_at rs' ps' (length ps' - suc i) v ≡ (is_fp v || back (drop (suc i) xs) out v)

-- a list of the first n blocks of a code, from what is live at the ends of the blocks
pub record IsListTo (code : List PlainBlock) (out : ℕ → Var → Bool) (l : LiveList) (n : ℕ) : Type 0 where
  pub list : IsLiveList l
  pub blocks : blocks_in l ≡ n
  pub whole : start_at l.ends.items n ≡ length l.parts.items
  pub lengths : (b : ℕ) → b < n → parts_in l b ≡ length (instrs_at code b)
  pub after : (b i : ℕ) (v : Var) → b < n → i < length (instrs_at code b)
      → tells l b i v ≡ (is_fp v || back (drop (suc i) (instrs_at code b)) (out b) v)

-- nothing but fp is live at the starts of the first n blocks, where nothing is live at their ends
abbrev pub NoneCross : List PlainBlock → ℕ → Type 0
NoneCross code n = (b : ℕ) (v : Var) → b < n → is_fp v ≡ false → back (instrs_at code b) nothing v ≡ false
