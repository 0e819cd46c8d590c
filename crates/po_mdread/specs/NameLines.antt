-- The names on a line. A line that ends too early is wrong in the column behind its last byte, here `end`.
use Rattle.std.specs.Prelude.{ℕ, List, [], ◌∷◌, ◌++◌, length, take, drop, nat_lt, if◌then◌else◌, Result, Ok, Err, ⊤}
use Rattle.po_text.specs.declared.fault.Kind.TheVariants as kind
use Rattle.po_lines.specs.declared.fault.LineFault.{LineFault}
use Rattle.po_lines.specs.Faults.{◌>>=◌, fault}
use Rattle.po_lines.specs.Forms.{no_more, first_word}
use Rattle.po_lines.specs.Leaves.{name_in}
use Rattle.po_lines.specs.NameList.{has}
use Rattle.po_lines.specs.Words.{Placed}

-- these words as names
unfoldable pub names_in : List Placed → Result (List (List ℕ)) LineFault
names_in [] = Ok []
names_in (w ∷ ws) = do
  name ← name_in w
  names ← names_in ws
  Ok (name ∷ names)

-- there are so many words
unfoldable pub at_least : ℕ → List Placed → ℕ → Result ⊤ LineFault
at_least n ws end = if nat_lt (length ws) n then Err (fault end kind.Word) else Ok tt

-- there are no more words than these; the first one that is too many is at fault
unfoldable pub none_past : List Placed → Result ⊤ LineFault
none_past [] = Ok tt
none_past (w ∷ ws) = Err (fault w.column kind.TooMany)

-- four names, and no further word
unfoldable pub four_names : List Placed → ℕ → Result (List (List ℕ)) LineFault
four_names ws end = do
  names ← names_in (take 4 ws)
  enough ← at_least 4 ws end
  nothing ← no_more (drop 4 ws)
  Ok names

-- 1 to 64 names; the number is looked at first
unfoldable pub register_names : List Placed → ℕ → Result (List (List ℕ)) LineFault
register_names ws end = do
  few ← none_past (drop 64 ws)
  some ← first_word ws end
  names_in ws

-- these names, and behind them those of the line, which all have to be new; the first that is there already is at
-- fault
unfoldable pub with_new : List (List ℕ) → List Placed → Result (List (List ℕ)) LineFault
with_new names [] = Ok names
with_new names (w ∷ ws) = if has w.bytes names then Err (fault w.column kind.Duplicate)
    else with_new (names ++ w.bytes ∷ []) ws
