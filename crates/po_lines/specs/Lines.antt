-- The lines of a text from a place on. A text is cut at its line feeds. An empty part behind the last line feed is no
-- line, and a carriage return right before a line feed belongs to neither line.
use Rattle.std.specs.Prelude.{◌≡◌, ℕ, ◌+◌, ◌==◌, Bool, List, [], ◌∷◌, length, take, drop, nat_lt, if◌then◌else◌}
use Rattle.std.specs.Prelude.{Option, Some, None}
use Rattle.std.specs.List.{slice_split}
use Rattle.std.specs.Str.Lines.{strip_carriage_return}
use Rattle.po_text.specs.declared.fault.Spot.{Spot}
use Rattle.po_lines.specs.declared.line.Line.{Line}

-- a line without where it lies in memory: its number, its bytes, and the offset of what stands behind it
pub record Numbered : Type 0 where
  pub number : ℕ
  pub bytes : List ℕ
  pub after : ℕ

abbrev pub line_of : Line → Numbered
line_of l = record { number = l.number; bytes = l.bytes.now; after = l.after }

abbrev pub is_feed : ℕ → Bool
is_feed byte = byte == 10

-- the lines in the parts between line feeds, of which the first has this number and begins at this offset
abbrev pub lines_at : ℕ → ℕ → List (List ℕ) → List Numbered
lines_at number offset [] = []
lines_at number offset (x ∷ []) =
    if length x == 0 then [] else record { number = number; bytes = x; after = offset + length x } ∷ []
lines_at number offset (x ∷ y ∷ more) =
    record { number = number; bytes = strip_carriage_return x; after = offset + length x + 1 }
    ∷ lines_at (number + 1) (offset + length x + 1) (y ∷ more)

-- the lines of these bytes
unfoldable pub lines_from : ℕ → ℕ → List ℕ → List Numbered
lines_from number offset bytes = lines_at number offset (slice_split is_feed bytes)

-- the lines of a text from a place on
abbrev pub lines_behind : Spot → List ℕ → List Numbered
lines_behind at text = lines_from at.line at.offset (drop at.offset text)

-- the lines that are ahead, and the number of the first of them, or at the end of the text of the line behind the last
pub record Ahead : Type 0 where
  pub line : ℕ
  pub lines : List Numbered

-- the number of the line behind the last one
abbrev pub line_behind : Spot → List ℕ → ℕ
line_behind at text = at.line + length (lines_behind at text)

-- the first of the lines ahead is taken
abbrev pub Takes : Ahead → Ahead → Option Line → Type 0
Takes old new None = (old.lines ≡ []) × (new ≡ old)
Takes old new (Some l) = (old ≡ record { line = l.number; lines = line_of l ∷ new.lines }) × (new.line ≡ l.number + 1)

-- the first line, if its line feed stands behind so many bytes, or else all of them
abbrev pub line_until : List ℕ → ℕ → List ℕ
line_until bytes n = if nat_lt n (length bytes) then strip_carriage_return (take n bytes) else bytes
