-- The words of a line, which stand between blanks, with the columns at which they begin.
use Rattle.std.specs.Prelude.{ℕ, ◌+◌, ◌-◌, List, length, map, take, drop, nat_lt, if◌then◌else◌, Result, Ok, Err}
use Rattle.po_text.specs.Words.{words_of}
use Rattle.po_text.specs.declared.fault.Span.{Span}
use Rattle.po_text.specs.declared.fault.Kind.TheVariants as kind
use Rattle.po_lines.specs.declared.word.Word.{Word}
use Rattle.po_lines.specs.declared.fault.LineFault.{LineFault}
use Rattle.po_lines.specs.Faults.{◌>>=◌, fault}

-- a word without where it lies in memory
pub record Placed : Type 0 where
  pub column : ℕ
  pub bytes : List ℕ

abbrev pub seen : Word → Placed
seen w = record { column = w.column; bytes = w.bytes.now }

-- the word at a place of a line; columns are counted from 1
abbrev pub word_at : List ℕ → Span → Placed
word_at line span = record { column = span.start + 1; bytes = take (span.end - span.start) (drop span.start line) }

-- the words of a line
unfoldable pub words_in : List ℕ → List Placed
words_in line = map (word_at line) (words_of line)

-- the words of a line, which has at most 4096 bytes
unfoldable pub line_words : List ℕ → Result (List Placed) LineFault
line_words line = if nat_lt 4096 (length line) then Err (fault 4097 kind.TooMany) else Ok (words_in line)

-- the first words of a line, so many at most
unfoldable pub first_words : ℕ → List ℕ → Result (List Placed) LineFault
first_words most line = do
  ws ← line_words line
  Ok (take most ws)
