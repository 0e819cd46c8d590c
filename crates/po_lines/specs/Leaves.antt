-- What one word is read as, or the place and kind of its fault.
use Rattle.std.specs.Prelude.{ℕ, ◌+◌, ◌&&◌, List, Bool, ℤ, pos, negsuc, int_le, unsigned_abs, if◌then◌else◌, Result}
use Rattle.std.specs.Prelude.{Ok, Err, Option, Some, None, ⊤, nat_eq}
use Rattle.std.specs.List.{list_all}
use Rattle.std.specs.Cmp.Lexicographic.{pointwise}
use Rattle.po_word.specs.Words.{word_of}
use Rattle.po_text.specs.Number.{number_of}
use Rattle.po_text.specs.declared.fault.Kind.TheVariants as kind
use Rattle.po_name.specs.Names.{is_name, is_name_byte, begins_name}
use Rattle.po_lines.specs.declared.fault.LineFault.{LineFault}
use Rattle.po_lines.specs.Words.{Placed}
use Rattle.po_lines.specs.Faults.{◌>>=◌, fault}

-- two texts are the same
abbrev pub same : List ℕ → List ℕ → Bool
same = pointwise nat_eq

-- this keyword stands here
unfoldable pub keyword_in : List ℕ → Placed → Result ⊤ LineFault
keyword_in text w = if same w.bytes text then Ok tt else Err (fault w.column kind.Word)

-- a name, but for its length
abbrev pub is_name_text : List ℕ → Bool
is_name_text bytes = begins_name bytes && list_all is_name_byte bytes

-- a word as a name: one that is only too long is wrong at its byte 65, any other at its first byte
unfoldable pub name_in : Placed → Result (List ℕ) LineFault
name_in w = if is_name w.bytes then Ok w.bytes
    else (if is_name_text w.bytes then Err (fault (w.column + 64) kind.TooMany)
    else Err (fault w.column kind.Word))

-- a number within bounds
abbrev pub bounded : ℤ → ℤ → ℕ → Option ℤ → Result ℤ LineFault
bounded low high column None = Err (fault column kind.Word)
bounded low high column (Some n) = if int_le low n && int_le n high then Ok n else Err (fault column kind.Number)

-- a word as a number from `low` to `high`
unfoldable pub number_in : ℤ → ℤ → Placed → Result ℤ LineFault
number_in low high w = bounded low high w.column (number_of w.bytes)

-- a word as a number from -2147483648 to 4294967295, modulo 2 ^ 32
unfoldable pub word_number_in : Placed → Result ℕ LineFault
word_number_in w = do
  n ← number_in (negsuc 2147483647) (pos 4294967295) w
  Ok (word_of n)

-- a word as a number from -2147483648 to 2147483647
unfoldable pub signed_number_in : Placed → Result ℤ LineFault
signed_number_in w = number_in (negsuc 2147483647) (pos 2147483647) w

-- a word as a number from 0 to `most`
unfoldable pub small_number_in : ℕ → Placed → Result ℕ LineFault
small_number_in most w = do
  n ← number_in (pos 0) (pos most) w
  Ok (unsigned_abs n)
