-- The form of a unit's lines, apart from how they are read: which words write an operation, and which lines write
-- units.
use Rattle.std.specs.Prelude.{◌≡◌, ℕ, ◌≤◌, List, [], ◌∷◌, ◌++◌, length, map, codes, Bool, true, not, nat_eq, ℤ, pos}
use Rattle.std.specs.Prelude.{negsuc, ◌≤ℤ◌, All, IsTrue, Some}
use Rattle.std.specs.List.{AllZip, filter, starts_with}
use Rattle.po_word.specs.Words.{word_of}
use Rattle.po_text.specs.Number.{number_of}
use Rattle.po_name.specs.Names.{is_name}
use Rattle.po_lines.specs.Lines.{Numbered}
use Rattle.po_lines.specs.Words.{Placed, words_in}
use Rattle.po_ir.specs.declared.unit.Op.{Op}
use Rattle.po_ir.specs.declared.unit.Op.TheVariants as op
use Rattle.po_ir.specs.Keys.{key_text}
use Rattle.po_ir.specs.Ops.{key_of}
use Rattle.po_ir.specs.declared.unit.Unit.{Unit as StackUnit}
use Rattle.po_ir.specs.Units.{IsUnit, NamesDiffer}

-- the digits are a number from -2147483648 to 4294967295, which is n modulo 2 ^ 32
pub record IsWordNumber (digits : List ℕ) (n : ℕ) : Type 0 where
  pub value : ℤ
  pub number : number_of digits ≡ Some value
  pub under : negsuc 2147483647 ≤ℤ value
  pub over : value ≤ℤ pos 4294967295
  pub word : word_of value ≡ n

-- one word, a number
abbrev pub IsNumberAlone : ℕ → List (List ℕ) → Type 0
IsNumberAlone n ws = (digits : List ℕ) × IsWordNumber digits n × (ws ≡ digits ∷ [])

-- one word, a name
abbrev pub IsNameAlone : List ℕ → List (List ℕ) → Type 0
IsNameAlone name ws = IsTrue (is_name name) × (ws ≡ name ∷ [])

-- the words behind the first one
abbrev pub IsArgument : Op → List (List ℕ) → Type 0
IsArgument (op.Con n) ws = IsNumberAlone n ws
IsArgument (op.Adl n) ws = IsNumberAlone n ws
IsArgument (op.Adg s) ws = IsNameAlone s ws
IsArgument op.Lod ws = ws ≡ []
IsArgument op.Sto ws = ws ≡ []
IsArgument (op.Bin o) ws = ws ≡ []
IsArgument (op.Un o) ws = ws ≡ []
IsArgument op.Dup ws = ws ≡ []
IsArgument op.Pop ws = ws ≡ []
IsArgument (op.Lab l) ws = IsNameAlone l ws
IsArgument (op.Jmp l) ws = IsNameAlone l ws
IsArgument (op.Br r l) ws = IsNameAlone l ws
IsArgument (op.Arg k) ws = (digits : List ℕ) × (number_of digits ≡ Some (pos k)) × (k ≤ 3) × (ws ≡ digits ∷ [])
IsArgument (op.Call f n) ws =
    (digits : List ℕ) × IsTrue (is_name f) × (number_of digits ≡ Some (pos n)) × (n ≤ 4) × (ws ≡ f ∷ digits ∷ [])
IsArgument op.Ret ws = ws ≡ []

-- these words are the line of this operation
abbrev pub IsOpLine : List (List ℕ) → Op → Type 0
IsOpLine ws o = (rest : List (List ℕ)) × IsArgument o rest × (ws ≡ key_text (key_of o) ∷ rest)

-- a word without its column
abbrev pub word_bytes : Placed → List ℕ
word_bytes w = w.bytes

-- the words of a line, without their columns
abbrev pub texts_of : Numbered → List (List ℕ)
texts_of l = map word_bytes (words_in l.bytes)

-- a line without words, or whose first word begins with `//`, says nothing
abbrev pub is_silent : List (List ℕ) → Bool
is_silent [] = true
is_silent (w ∷ ws) = starts_with nat_eq w (codes "//")

-- what the lines say: the words of each that says something
abbrev pub said : List Numbered → List (List (List ℕ))
said ls = filter (λ ws. not (is_silent ws)) (map texts_of ls)

-- each unit is its first line, a line for each operation, and its last line
abbrev pub AreLinesOf : List (List (List ℕ)) → List StackUnit → Type 0
AreLinesOf ls [] = ls ≡ []
AreLinesOf ls (u ∷ us) =
    (body : List (List (List ℕ))) × (rest : List (List (List ℕ)))
    × (ls ≡ (codes "unit" ∷ u.name ∷ []) ∷ (body ++ (codes "end" ∷ []) ∷ rest))
    × AllZip IsOpLine body u.ops × AreLinesOf rest us

-- a line has at most 4096 bytes
abbrev pub IsShort : Numbered → Type 0
IsShort l = length l.bytes ≤ 4096

-- these lines write these units, and the language allows them
pub record IsUnits (ls : List Numbered) (us : List StackUnit) : Type 0 where
  pub short : All IsShort ls
  pub lines : AreLinesOf (said ls) us
  pub allowed : All IsUnit us
  pub differ : NamesDiffer us
  pub few : length us ≤ 65536
