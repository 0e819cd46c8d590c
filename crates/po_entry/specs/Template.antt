-- The template of an entry: the bytes behind `=>` and one space, up to the line's end.
use Rattle.std.specs.Prelude.{ℕ, ◌+◌, ◌-◌, ◌==◌, ◌&&◌, Bool, nat_le, List, [], ◌∷◌, ◌++◌, false, codes, if◌then◌else◌}
use Rattle.std.specs.Prelude.{Result, Ok, Err, Option, Some, None}
use Rattle.po_text.specs.declared.fault.Kind.TheVariants as kind
use Rattle.po_name.specs.Names.{is_digit}
use Rattle.po_lines.specs.declared.fault.LineFault.{LineFault}
use Rattle.po_lines.specs.Faults.{◌>>=◌, fault}
use Rattle.po_model.specs.declared.machine.Piece.{Piece}
use Rattle.po_model.specs.declared.machine.Piece.TheVariants as piece
use Rattle.po_pattern.specs.declared.operands.Operands.{Operands}
use Rattle.po_pattern.specs.declared.operands.OperandKind.{OperandKind}
use Rattle.po_pattern.specs.declared.operands.OperandKind.TheVariants.{Register, Constant, Symbol, Label}
use Rattle.po_pattern.specs.Rests.{Rest, wrong, mark}
use Rattle.po_pattern.specs.Seen.{kind_of, same_kind}
use Rattle.po_entry.specs.declared.begun.Begun.{Begun}
use Rattle.po_entry.specs.declared.begun.Mark.{Mark}
use Rattle.po_entry.specs.EntryText.{is_mark}
use Rattle.po_entry.specs.Words.{says, after_word}

-- `=>` and exactly one space
unfoldable pub arrow : Rest → Result Rest LineFault
arrow r = if says (codes "=>") r then mark 32 (after_word r) else wrong r

-- what an operand with this mark stands for
abbrev pub kind_by : ℕ → OperandKind
kind_by mark = if mark == 37 then Register else (if mark == 35 then Constant
    else (if mark == 64 then Label else Symbol))

abbrev pub piece_by : OperandKind → ℕ → Piece
piece_by Register k = piece.Reg k
piece_by Constant k = piece.Num k
piece_by Label k = piece.Label k
piece_by Symbol k = piece.Sym k

-- the pattern has the digit with this kind
abbrev pub is_seen : OperandKind → Option OperandKind → Bool
is_seen kind None = false
is_seen kind (Some other) = same_kind other kind

-- a mark and the byte behind it: a single character, or an operand of the pattern
abbrev pub marked : Operands → Mark → ℕ → Result Piece LineFault
marked seen mark byte = if byte == mark.byte then Ok (piece.Byte byte)
    else (if is_digit byte && is_seen (kind_by mark.byte) (kind_of seen (byte - 48))
    then Ok (piece_by (kind_by mark.byte) (byte - 48))
    else Err (fault mark.column kind.ListForm))

-- a character that stands for itself
abbrev pub plain : ℕ → ℕ → Result Piece LineFault
plain column byte = if nat_le 32 byte && nat_le byte 126 then Ok (piece.Byte byte) else Err (fault column kind.Word)

-- these pieces and one more
abbrev pub with_piece : List Piece → Piece → Begun
with_piece pieces p = record { pieces = pieces ++ p ∷ []; waiting = None }

-- one byte more, which stands at this column
abbrev pub step_with : Operands → ℕ → List Piece → Option Mark → ℕ → Result Begun LineFault
step_with seen column pieces None byte = if is_mark byte
    then Ok (record { pieces = pieces; waiting = Some (record { byte = byte; column = column }) })
    else (do
      p ← plain column byte
      Ok (with_piece pieces p))
step_with seen column pieces (Some mark) byte = do
  p ← marked seen mark byte
  Ok (with_piece pieces p)

unfoldable pub template_step : Operands → ℕ → Begun → ℕ → Result Begun LineFault
template_step seen column s byte = step_with seen column s.pieces s.waiting byte

-- these bytes more, of which the first stands at this column; the first fault stays
unfoldable pub template_from : Operands → ℕ → Begun → List ℕ → Result Begun LineFault
template_from seen column s [] = Ok s
template_from seen column s (b ∷ bs) = do
  t ← template_step seen column s b
  template_from seen (column + 1) t bs

-- no piece yet, and no mark
abbrev pub nothing_yet : Begun
nothing_yet = record { pieces = []; waiting = None }

-- a mark at the line's end is single
abbrev pub whole_with : List Piece → Option Mark → Result (List Piece) LineFault
whole_with pieces None = Ok pieces
whole_with pieces (Some mark) = Err (fault mark.column kind.ListForm)

-- the template that begins here and goes to the line's end
unfoldable pub template_in : Operands → Rest → Result (List Piece) LineFault
template_in seen r = do
  s ← template_from seen r.column nothing_yet r.bytes
  whole_with s.pieces s.waiting
