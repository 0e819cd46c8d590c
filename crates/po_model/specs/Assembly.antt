-- The assembly of a unit: its name, the name of each label, and for each instruction the filled template of the entry
-- that it fits.
use Rattle.std.specs.Prelude.{ℕ, suc, ◌≡◌, nat_lt, Bool, List, [], ◌∷◌, ◌++◌, Option, Some, None, codes, slice_get}
use Rattle.std.specs.Prelude.{unwrap_or, if◌then◌else◌}
use Rattle.std.specs.List.{flat_map}
use Rattle.std.specs.Fmt.{signed_decimal}
use Rattle.po_word.specs.Words.{signed}
use Rattle.po_term.specs.declared.term.Reg.{Reg as Register}
use Rattle.po_term.specs.declared.term.Reg.TheVariants.{Virt, Fp, Rv, Arg}
use Rattle.po_term.specs.declared.term.Sym.{Sym as Symbol}
use Rattle.po_term.specs.declared.term.Label.{Label as Target}
use Rattle.po_model.specs.declared.machine.Machine.{Machine}
use Rattle.po_model.specs.declared.machine.Entry.{Entry}
use Rattle.po_model.specs.declared.machine.Piece.{Piece}
use Rattle.po_model.specs.declared.machine.Piece.TheVariants.{Byte, Reg, Num, Label, Sym}
use Rattle.po_model.specs.Blocks.{PlainBlock}
use Rattle.po_model.specs.Fit.{Found, Thing, ARegister, AConstant, ASymbol, ALabel, operand_of, fit}
use Rattle.po_model.specs.Fitted.{TellsCc}
use Rattle.po_model.specs.Placement.{machine_of}
use Rattle.po_model.specs.UnitCodes.{PlainUnit}
use Rattle.po_term.specs.Moves.{PlainInstr}

-- the name at a place of a list, or nothing
abbrev pub name_at : List (List ℕ) → ℕ → List ℕ
name_at names k = unwrap_or (slice_get names k) []

-- a label is written NAME.LABEL
abbrev pub label_text : PlainUnit → Target → List ℕ
label_text u l = u.name ++ codes "." ++ name_at u.labels l.0

-- the line of a block: its label, where it has one
abbrev pub label_line : PlainUnit → Option Target → List ℕ
label_line u None = []
label_line u (Some l) = label_text u l ++ codes ":\n"

-- a machine, and the machine register of each virtual register
module _ (m : Machine) (at : ℕ → ℕ) where
  -- a register by its name in the description
  abbrev pub register_text : Register → List ℕ
  register_text (Virt v) = name_at m.regs (at v)
  register_text Fp = m.frame
  register_text Rv = m.result
  register_text (Arg k) = name_at m.args k

  module _ (u : PlainUnit) where
    -- a constant is written in decimal by its signed view
    abbrev pub thing_text : Option (Thing ℕ Register Symbol) → List ℕ
    thing_text None = []
    thing_text (Some (ARegister r)) = register_text r
    thing_text (Some (AConstant c)) = signed_decimal (signed c)
    thing_text (Some (ASymbol s)) = name_at u.syms s.0
    thing_text (Some (ALabel l)) = label_text u l

    -- what the operand k stands for: nothing where k is no digit, or the pattern doesn't have it
    abbrev pub operand_text : List (Found ℕ Register Symbol) → ℕ → List ℕ
    operand_text fs k = thing_text (if nat_lt k 10 then operand_of k fs else None)

    abbrev pub piece_text : List (Found ℕ Register Symbol) → Piece → List ℕ
    piece_text fs (Byte b) = b ∷ []
    piece_text fs (Reg k) = operand_text fs k
    piece_text fs (Num k) = operand_text fs k
    piece_text fs (Label k) = operand_text fs k
    piece_text fs (Sym k) = operand_text fs k

    -- the filled template of an entry
    abbrev pub filled : List (Found ℕ Register Symbol) → Option Entry → List ℕ
    filled fs None = []
    filled fs (Some e) = flat_map (piece_text fs) e.template

    -- the line of an instruction that fits the entry of this number: two spaces, the filled template and a line feed
    abbrev pub line_of : Option (ℕ × List (Found ℕ Register Symbol)) → List ℕ
    line_of None = []
    line_of (Some found) = codes "  " ++ filled found.1 (slice_get m.entries found.0) ++ codes "\n"

    -- `live` tells of each place whether cc is live there
    module _ (live : ℕ → ℕ → Bool) where
      -- the lines of these instructions of the block b, the first of which has the number i
      abbrev pub lines_from : ℕ → ℕ → List PlainInstr → List ℕ
      lines_from b i [] = []
      lines_from b i (x ∷ xs) = line_of (fit m (live b i) x) ++ lines_from b (suc i) xs

      -- the lines of these blocks, the first of which has the number b
      abbrev pub blocks_from : ℕ → List PlainBlock → List ℕ
      blocks_from b [] = []
      blocks_from b (x ∷ xs) = label_line u x.label ++ lines_from b 0 x.instrs ++ blocks_from (suc b) xs

      -- the unit's name, and then its blocks
      abbrev pub assembly : List ℕ
      assembly = u.name ++ codes ":\n" ++ blocks_from 0 u.code

-- the text is the assembly of a unit whose virtual registers have these machine registers
pub record IsAssembly (m : Machine) (regs : List (ℕ × ℕ)) (u : PlainUnit) (text : List ℕ) : Type 0 where
  pub at : ℕ → ℕ
  pub gives : (v : ℕ) → at v ≡ machine_of regs v
  pub live : ℕ → ℕ → Bool
  pub tells : TellsCc u.code live
  pub lines : text ≡ assembly m at u live
