-- The printed text of a unit.
use Rattle.std.specs.Prelude.{ℕ, List, [], ◌∷◌, ◌++◌, map, codes}
use Rattle.std.specs.List.{flat_map, join_with_byte}
use Rattle.std.specs.Fmt.{decimal, signed_decimal}
use Rattle.po_word.specs.Words.{signed}
use Rattle.po_ir.specs.declared.unit.Op.{Op}
use Rattle.po_ir.specs.declared.unit.Op.TheVariants as op
use Rattle.po_ir.specs.declared.unit.Unit.{Unit as StackUnit}
use Rattle.po_ir.specs.Keys.{key_text}
use Rattle.po_ir.specs.Ops.{key_of}

-- a number of a machine word is printed by its signed view
abbrev pub number_text : ℕ → List ℕ
number_text n = signed_decimal (signed n)

-- the words behind the first one
abbrev pub argument_words : Op → List (List ℕ)
argument_words (op.Con n) = number_text n ∷ []
argument_words (op.Adl n) = number_text n ∷ []
argument_words (op.Adg s) = s ∷ []
argument_words op.Lod = []
argument_words op.Sto = []
argument_words (op.Bin o) = []
argument_words (op.Un o) = []
argument_words op.Dup = []
argument_words op.Pop = []
argument_words (op.Lab l) = l ∷ []
argument_words (op.Jmp l) = l ∷ []
argument_words (op.Br r l) = l ∷ []
argument_words (op.Arg k) = decimal k ∷ []
argument_words (op.Call f n) = f ∷ decimal n ∷ []
argument_words op.Ret = []

-- the words of an operation's line
abbrev pub op_words : Op → List (List ℕ)
op_words o = key_text (key_of o) ∷ argument_words o

-- the words of a unit's lines
abbrev pub unit_words : StackUnit → List (List (List ℕ))
unit_words u = (codes "unit" ∷ u.name ∷ []) ∷ (map op_words u.ops ++ (codes "end" ∷ []) ∷ [])

-- a line: its words with one space between two, and its line feed
abbrev pub line_text : List (List ℕ) → List ℕ
line_text ws = join_with_byte 32 ws ++ 10 ∷ []

-- the text of a unit
abbrev pub unit_text : StackUnit → List ℕ
unit_text u = flat_map line_text (unit_words u)
