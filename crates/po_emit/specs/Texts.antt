-- The texts of operands, by the ten operands that a recogniser answers.
use Rattle.std.specs.Prelude.{ℕ, List, [], ◌∷◌, Option, Some, None, ◌++◌, codes, slice_get, unwrap_or}
use Rattle.std.specs.Fmt.{signed_decimal}
use Rattle.std.specs.List.{flat_map}
use Rattle.po_word.specs.Words.{signed}
use Rattle.po_model.specs.declared.machine.Machine.{Machine}
use Rattle.po_model.specs.declared.machine.Entry.{Entry}
use Rattle.po_model.specs.declared.machine.Piece.{Piece}
use Rattle.po_model.specs.declared.machine.Piece.TheVariants as piece
use Rattle.po_model.specs.UnitCodes.{PlainUnit}
use Rattle.po_model.specs.Assembly.{name_at, label_text, register_text}
use Rattle.po_recog.specs.declared.answer.Operand.{Operand}
use Rattle.po_recog.specs.declared.answer.Operand.TheVariants.{Reg, Num, Label, Sym}

-- the operand of a digit, among the ten
abbrev pub slot_at : List (Option Operand) → ℕ → Option Operand
slot_at slots k = unwrap_or (slice_get slots k) None

-- a piece of a template, where an operand's text is told by its digit
abbrev pub piece_text : (ℕ → List ℕ) → Piece → List ℕ
piece_text text (piece.Byte b) = b ∷ []
piece_text text (piece.Reg k) = text k
piece_text text (piece.Num k) = text k
piece_text text (piece.Label k) = text k
piece_text text (piece.Sym k) = text k

module _ (m : Machine) (at : ℕ → ℕ) (u : PlainUnit) where
  abbrev pub operand_text : Option Operand → List ℕ
  operand_text None = []
  operand_text (Some (Reg r)) = register_text m at r
  operand_text (Some (Num c)) = signed_decimal (signed c)
  operand_text (Some (Label l)) = label_text u l
  operand_text (Some (Sym s)) = name_at u.syms s.0

  -- by its digit
  abbrev pub digit_text : List (Option Operand) → ℕ → List ℕ
  digit_text slots k = operand_text (slot_at slots k)

  -- a template with these operands
  abbrev pub filled : List (Option Operand) → List Piece → List ℕ
  filled slots ps = flat_map (piece_text (digit_text slots)) ps

  -- with the template of an entry that may be there
  abbrev pub filled_from : List (Option Operand) → Option Entry → List ℕ
  filled_from slots None = []
  filled_from slots (Some e) = filled slots e.template

  -- the line of an instruction that fits the entry of this number, with these operands
  abbrev pub line_with : ℕ × List (Option Operand) → List ℕ
  line_with found = codes "  " ++ filled_from found.1 (slice_get m.entries found.0) ++ codes "\n"
