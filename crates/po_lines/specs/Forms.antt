-- Forms of the words of a line. A line that ends too early is wrong in the column behind its last byte, here `end`.
use Rattle.std.specs.Prelude.{ℕ, List, [], ◌∷◌, codes, Bool, true, Result, Ok, Err, ⊤, nat_eq}
use Rattle.std.specs.List.{starts_with}
use Rattle.po_text.specs.declared.fault.Kind.TheVariants as kind
use Rattle.po_lines.specs.declared.fault.LineFault.{LineFault}
use Rattle.po_lines.specs.Words.{Placed}
use Rattle.po_lines.specs.Leaves.{name_in, word_number_in}
use Rattle.po_lines.specs.Faults.{◌>>=◌, fault}

-- a line without words, or whose first word begins with `//`, says nothing
unfoldable pub says_nothing : List Placed → Bool
says_nothing [] = true
says_nothing (w ∷ ws) = starts_with nat_eq w.bytes (codes "//")

-- no further word
unfoldable pub no_more : List Placed → Result ⊤ LineFault
no_more [] = Ok tt
no_more (w ∷ ws) = Err (fault w.column kind.Word)

-- the first word
unfoldable pub first_word : List Placed → ℕ → Result Placed LineFault
first_word [] end = Err (fault end kind.Word)
first_word (w ∷ ws) end = Ok w

-- the words behind the first
unfoldable pub rest_words : List Placed → List Placed
rest_words [] = []
rest_words (w ∷ ws) = ws

-- one name, and no further word
unfoldable pub name_alone : List Placed → ℕ → Result (List ℕ) LineFault
name_alone ws end = do
  w ← first_word ws end
  name ← name_in w
  nothing ← no_more (rest_words ws)
  Ok name

-- one number of a machine word, and no further word
unfoldable pub word_number_alone : List Placed → ℕ → Result ℕ LineFault
word_number_alone ws end = do
  w ← first_word ws end
  n ← word_number_in w
  nothing ← no_more (rest_words ws)
  Ok n
