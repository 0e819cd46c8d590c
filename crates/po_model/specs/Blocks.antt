-- A code as plain blocks, and which block may be next.
use Rattle.std.specs.Prelude.{ℕ, zero, suc, ◌≡◌, ◌==◌, nat_lt, Bool, true, false, ◌||◌, if◌then◌else◌, List, [], ◌∷◌}
use Rattle.std.specs.Prelude.{map, length, All, Option, Some, None}
use Rattle.po_term.specs.declared.term.Sym.{Sym}
use Rattle.po_term.specs.declared.term.Label.{Label}
use Rattle.po_term.specs.Terms.{Place}
use Rattle.po_term.specs.Moves.{Ending, GoTo, IfCc, IfTwo, CallOf, Return, PlainInstr, instrs_of}
use Rattle.po_model.specs.declared.code.Block.{Block}
use Rattle.po_model.specs.declared.code.Code.{Code}
use Rattle.po_model.specs.Parts.{ending_of}

pub record PlainBlock : Type 0 where
  pub label : Option Label
  pub instrs : List PlainInstr

abbrev pub block_of : Block → PlainBlock
block_of b = record { label = b.label; instrs = instrs_of b.instrs.items }

abbrev pub code_of : Code → List PlainBlock
code_of c = map block_of c.blocks.items

-- the control transfer of a block: that of its last instruction
abbrev pub block_ending : List PlainInstr → Option (Ending ℕ Place Sym)
block_ending [] = None
block_ending (x ∷ []) = ending_of x
block_ending (x ∷ y ∷ ys) = block_ending (y ∷ ys)

-- a control transfer stands only in the last instruction
abbrev pub EndsLast : List PlainInstr → Type 0
EndsLast [] = Unit {0}
EndsLast (x ∷ []) = Unit {0}
EndsLast (x ∷ y ∷ ys) = (ending_of x ≡ None) × EndsLast (y ∷ ys)

-- that in each block of a code
abbrev pub IsCode : List PlainBlock → Type 0
IsCode bs = All (λ b. EndsLast b.instrs) bs

-- the instructions of the block b
abbrev pub instrs_at : List PlainBlock → ℕ → List PlainInstr
instrs_at [] b = []
instrs_at (x ∷ xs) zero = x.instrs
instrs_at (x ∷ xs) (suc b) = instrs_at xs b

abbrev pub has_label : Label → Option Label → Bool
has_label l None = false
has_label l (Some m) = l.0 == m.0

-- the first of these blocks, numbered from n on, that has the label l
abbrev pub block_from : ℕ → List PlainBlock → Label → Option ℕ
block_from n [] l = None
block_from n (x ∷ xs) l = if has_label l x.label then Some n else block_from (suc n) xs l

-- the block of a label: the first one that has it
abbrev pub block_with : List PlainBlock → Label → Option ℕ
block_with bs l = block_from 0 bs l

-- where a control transfer may lead by its label
abbrev pub target_by : List PlainBlock → Option (Ending ℕ Place Sym) → Option ℕ
target_by bs None = None
target_by bs (Some (GoTo l)) = block_with bs l
target_by bs (Some (IfCc r l)) = block_with bs l
target_by bs (Some (IfTwo t u r l)) = block_with bs l
target_by bs (Some (CallOf s n)) = None
target_by bs (Some Return) = None

-- whether the next block may follow
abbrev pub goes_on : Option (Ending ℕ Place Sym) → Bool
goes_on None = true
goes_on (Some (GoTo l)) = false
goes_on (Some (IfCc r l)) = true
goes_on (Some (IfTwo t u r l)) = true
goes_on (Some (CallOf s n)) = true
goes_on (Some Return) = false

abbrev pub is_at : ℕ → Option ℕ → Bool
is_at q None = false
is_at q (Some b) = b == q

module _ (code : List PlainBlock) where
  abbrev pub ending_at : ℕ → Option (Ending ℕ Place Sym)
  ending_at b = block_ending (instrs_at code b)

  -- the block that the control transfer of the block b names, where it names one that is there
  abbrev pub target_at : ℕ → Option ℕ
  target_at b = target_by code (ending_at b)

  -- the block behind the block b, where it may follow and is there
  abbrev pub next_at : ℕ → Option ℕ
  next_at b = if nat_lt (suc b) (length code) then (if goes_on (ending_at b) then Some (suc b) else None) else None

  -- whether the block q may follow the block b
  abbrev pub leads : ℕ → ℕ → Bool
  leads b q = is_at q (target_at b) || is_at q (next_at b)
