-- What is left of a line, and what was read of it.
use Rattle.std.specs.Prelude.{ℕ, ◌+◌, ◌==◌, Bool, false, List, [], ◌∷◌, drop, if◌then◌else◌, Result, Ok, Err}
use Rattle.std.specs.List.{prefix_len}
use Rattle.po_text.specs.Words.{is_blank}
use Rattle.po_text.specs.declared.fault.Kind.TheVariants as kind
use Rattle.po_lines.specs.declared.fault.LineFault.{LineFault}
use Rattle.po_lines.specs.Faults.{fault}
use Rattle.po_pattern.specs.declared.cursor.Cursor.{Cursor}
use Rattle.po_pattern.specs.declared.cursor.Parsed.{Parsed}
use Rattle.po_pattern.specs.declared.operands.Operands.{Operands}

-- the bytes that are left, and the column of the first of them or of the line's end
pub record Rest : Type 0 where
  pub column : ℕ
  pub bytes : List ℕ

abbrev pub rest_of : Cursor → Rest
rest_of c = record { column = c.column; bytes = c.bytes.now }

-- what was read, what is left behind it, and the operands seen so far
pub record Read (T : Type 0) : Type 0 where
  pub value : T
  pub rest : Rest
  pub seen : Operands

abbrev pub read_of : {T : Type 0} → Parsed T → Read T
read_of p = record { value = p.value; rest = rest_of p.rest; seen = p.seen }

-- the rest behind so many bytes
abbrev pub behind : ℕ → Rest → Rest
behind n r = record { column = r.column + n; bytes = drop n r.bytes }

-- the rest behind its blanks
unfoldable pub skip_blanks : Rest → Rest
skip_blanks r = behind (prefix_len is_blank r.bytes) r

-- the part that stands here isn't allowed, or the line ends too early
abbrev pub wrong : {A : Type 0} → Rest → Result A LineFault
wrong r = Err (fault r.column kind.Word)

-- the first byte is this one
abbrev pub begins : ℕ → List ℕ → Bool
begins byte [] = false
begins byte (b ∷ bs) = b == byte

-- this byte has to stand here
unfoldable pub mark : ℕ → Rest → Result Rest LineFault
mark byte r = if begins byte r.bytes then Ok (behind 1 r) else wrong r
