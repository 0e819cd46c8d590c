-- What a line inside a unit is, from the words behind its first.
use Rattle.std.specs.Prelude.{ℕ, List, [], ◌∷◌, Result, Ok}
use Rattle.po_lines.specs.declared.fault.LineFault.{LineFault}
use Rattle.po_lines.specs.Words.{Placed}
use Rattle.po_lines.specs.Leaves.{name_in, small_number_in}
use Rattle.po_lines.specs.Forms.{no_more, first_word, rest_words, name_alone, word_number_alone}
use Rattle.po_lines.specs.Faults.{◌>>=◌}
use Rattle.po_ir.specs.declared.unit.Op.{Op}
use Rattle.po_ir.specs.declared.unit.Op.TheVariants as op
use Rattle.po_ir.specs.declared.unit.Key.{Key}
use Rattle.po_ir.specs.declared.unit.Key.TheVariants as key

-- an argument's number, 0 to 3, and no further word
unfoldable pub arg_in_line : List Placed → ℕ → Result ℕ LineFault
arg_in_line ws end = do
  w ← first_word ws end
  k ← small_number_in 3 w
  nothing ← no_more (rest_words ws)
  Ok k

-- a function's name, the number of its arguments, 0 to 4, and no further word
unfoldable pub call_in_line : List Placed → ℕ → Result Op LineFault
call_in_line ws end = do
  w ← first_word ws end
  name ← name_in w
  v ← first_word (rest_words ws) end
  n ← small_number_in 4 v
  nothing ← no_more (rest_words (rest_words ws))
  Ok (op.Call name n)

-- an operation of one word, and no further word
unfoldable pub alone : Op → List Placed → Result Op LineFault
alone o ws = do
  nothing ← no_more ws
  Ok o

-- the operation of a line; one that ends too early is wrong in the column `end`
unfoldable pub op_in : Key → List Placed → ℕ → Result Op LineFault
op_in key.Con ws end = do
  n ← word_number_alone ws end
  Ok (op.Con n)
op_in key.Adl ws end = do
  n ← word_number_alone ws end
  Ok (op.Adl n)
op_in key.Adg ws end = do
  name ← name_alone ws end
  Ok (op.Adg name)
op_in key.Lod ws end = alone op.Lod ws
op_in key.Sto ws end = alone op.Sto ws
op_in (key.Bin o) ws end = alone (op.Bin o) ws
op_in (key.Un o) ws end = alone (op.Un o) ws
op_in key.Dup ws end = alone op.Dup ws
op_in key.Pop ws end = alone op.Pop ws
op_in key.Lab ws end = do
  name ← name_alone ws end
  Ok (op.Lab name)
op_in key.Jmp ws end = do
  name ← name_alone ws end
  Ok (op.Jmp name)
op_in (key.Br r) ws end = do
  name ← name_alone ws end
  Ok (op.Br r name)
op_in key.Arg ws end = do
  k ← arg_in_line ws end
  Ok (op.Arg k)
op_in key.Call ws end = call_in_line ws end
op_in key.Ret ws end = alone op.Ret ws

-- where the second word of a line stands, from the words behind its first
abbrev pub second_column : List Placed → ℕ
second_column [] = 1
second_column (w ∷ ws) = w.column
