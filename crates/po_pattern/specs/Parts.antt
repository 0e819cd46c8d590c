-- The parts of a term that have no parts of their own: operands, numbers, registers. Blanks before a part are passed
-- over by what reads it; none stands inside an operand with its digit, a number or a name.
use Rattle.std.specs.Prelude.{ℕ, ◌+◌, ◌-◌, ◌==◌, Bool, List, [], ◌∷◌, take, codes, ℤ, int_le, if◌then◌else◌, Result}
use Rattle.std.specs.Prelude.{Ok, Err, Option, Some, None, ⊤}
use Rattle.std.specs.List.{prefix_len}
use Rattle.po_word.specs.Words.{word_of}
use Rattle.po_text.specs.declared.fault.Kind.TheVariants as fault_kind
use Rattle.po_name.specs.Names.{is_digit, is_name_byte}
use Rattle.po_term.specs.declared.term.Reg.{Reg}
use Rattle.po_term.specs.declared.term.Reg.TheVariants.{Fp, Rv, Arg}
use Rattle.po_model.specs.declared.machine.Bounds.{Bounds}
use Rattle.po_model.specs.declared.machine.PatReg.{PatReg}
use Rattle.po_model.specs.declared.machine.PatReg.TheVariants.{Any, Fixed}
use Rattle.po_model.specs.declared.machine.PatTerm.{PatTerm}
use Rattle.po_model.specs.declared.machine.PatTerm.TheVariants as pat
use Rattle.po_lines.specs.declared.fault.LineFault.{LineFault}
use Rattle.po_lines.specs.Faults.{◌>>=◌, fault}
use Rattle.po_lines.specs.Leaves.{same, signed_number_in}
use Rattle.po_pattern.specs.declared.operands.Operands.{Operands}
use Rattle.po_pattern.specs.declared.operands.OperandKind.{OperandKind}
use Rattle.po_pattern.specs.declared.operands.OperandKind.TheVariants.{Register, Constant, Symbol, Label}
use Rattle.po_pattern.specs.Rests.{Rest, Read, behind, skip_blanks, wrong, begins, mark}
use Rattle.po_pattern.specs.Seen.{kind_of, with_operand, may_be, is_new}

-- the bytes of the number that stands here: an optional `-` and digits
abbrev pub number_length : List ℕ → ℕ
number_length [] = 0
number_length (b ∷ bs) = if b == 45 then 1 + prefix_len is_digit bs else prefix_len is_digit (b ∷ bs)

-- the number that so many bytes are
abbrev pub number_with : Rest → ℕ → List ℕ → Result ℤ LineFault
number_with r n [] = wrong r
number_with r n (b ∷ bs) = signed_number_in (record { column = r.column; bytes = take n (b ∷ bs) })

unfoldable pub number_at : Rest → ℕ → Result ℤ LineFault
number_at r n = number_with r n r.bytes

-- a number from -2147483648 to 2147483647
unfoldable pub number : Rest → Operands → Result (Read ℤ) LineFault
number r seen = do
  n ← number_at r (number_length r.bytes)
  Ok (record { value = n; rest = behind (number_length r.bytes) r; seen = seen })

-- `%`, `#`, `&`, `@`
abbrev pub mark_of : OperandKind → ℕ
mark_of Register = 37
mark_of Constant = 35
mark_of Symbol = 38
mark_of Label = 64

-- the digit right behind the first byte, which is this one
abbrev pub digit_behind : ℕ → List ℕ → Option ℕ
digit_behind byte [] = None
digit_behind byte (b ∷ []) = None
digit_behind byte (b ∷ d ∷ ds) = if b == byte then (if is_digit d then Some (d - 48) else None) else None

-- the operand of this kind with its digit, whose digit has no other kind
abbrev pub operand_with : OperandKind → Rest → Operands → Option ℕ → Result (Read ℕ) LineFault
operand_with kind r seen None = wrong r
operand_with kind r seen (Some k) = if may_be kind (kind_of seen k)
    then Ok (record { value = k; rest = behind 2 r; seen = with_operand seen kind k })
    else Err (fault r.column fault_kind.ListForm)

-- the digit of an operand of this kind
unfoldable pub operand : OperandKind → Rest → Operands → Result (Read ℕ) LineFault
operand kind r seen = operand_with kind r seen (digit_behind (mark_of kind) r.bytes)

-- the lower end of a range isn't above the upper one; else the range, which stands at this column, is wrong
abbrev pub in_order : ℕ → ℤ → ℤ → Result ⊤ LineFault
in_order column low high = if int_le low high then Ok tt else Err (fault column fault_kind.Range)

-- a range `[lo,hi]`
unfoldable pub range : Rest → Operands → Result (Read (Option Bounds)) LineFault
range r seen = do
  opened ← mark 91 r
  low ← number (skip_blanks opened) seen
  comma ← mark 44 (skip_blanks low.rest)
  high ← number (skip_blanks comma) seen
  ordered ← in_order r.column low.value high.value
  close ← mark 93 (skip_blanks high.rest)
  Ok (record { value = Some (record { lo = low.value; hi = high.value }); rest = close; seen = seen })

-- the range behind an operand `#k`, which stands at this column, if it has one; only a new operand may have one
unfoldable pub range_behind : ℕ → Bool → Rest → Operands → Result (Read (Option Bounds)) LineFault
range_behind column new r seen = if begins 91 (skip_blanks r).bytes
    then (if new then range (skip_blanks r) seen else Err (fault column fault_kind.ListForm))
    else Ok (record { value = None; rest = r; seen = seen })

-- `%k`
unfoldable pub any_register : Rest → Operands → Result (Read PatReg) LineFault
any_register r seen = do
  k ← operand Register r seen
  Ok (record { value = Any k.value; rest = k.rest; seen = k.seen })

-- `#k` or `#k[lo,hi]`
unfoldable pub constant : Rest → Operands → Result (Read PatTerm) LineFault
constant r seen = do
  k ← operand Constant r seen
  range ← range_behind r.column (is_new (kind_of seen k.value)) k.rest k.seen
  Ok (record { value = pat.Const k.value range.value; rest = range.rest; seen = range.seen })

-- `&k` in a term
unfoldable pub symbol_address : Rest → Operands → Result (Read PatTerm) LineFault
symbol_address r seen = do
  k ← operand Symbol r seen
  Ok (record { value = pat.Addr k.value; rest = k.rest; seen = k.seen })

-- a number in a term: the constant modulo 2 ^ 32
unfoldable pub numeral : Rest → Operands → Result (Read PatTerm) LineFault
numeral r seen = do
  n ← number r seen
  Ok (record { value = pat.Num (word_of n.value); rest = n.rest; seen = n.seen })

-- the name that stands here, of no byte where none does
abbrev pub name_here : Rest → List ℕ
name_here r = take (prefix_len is_name_byte r.bytes) r.bytes

-- the fixed register of this name
abbrev pub fixed_of : List ℕ → Option Reg
fixed_of name = if same name (codes "fp") then Some Fp
    else (if same name (codes "rv") then Some Rv
    else (if same name (codes "arg0") then Some (Arg 0)
    else (if same name (codes "arg1") then Some (Arg 1)
    else (if same name (codes "arg2") then Some (Arg 2)
    else (if same name (codes "arg3") then Some (Arg 3)
    else None)))))

-- the register that was found under the name here
abbrev pub fixed_with : Rest → Operands → Option Reg → Result (Read PatReg) LineFault
fixed_with r seen None = wrong r
fixed_with r seen (Some register) =
    Ok (record { value = Fixed register; rest = behind (prefix_len is_name_byte r.bytes) r; seen = seen })

-- `fp`, `rv`, `arg0` to `arg3`
unfoldable pub fixed_register : Rest → Operands → Result (Read PatReg) LineFault
fixed_register r seen = fixed_with r seen (fixed_of (name_here r))

-- a register: `%k` or a fixed one
unfoldable pub register : Rest → Operands → Result (Read PatReg) LineFault
register r seen = if begins 37 r.bytes then any_register r seen else fixed_register r seen

-- a symbol `&k`, by its digit
unfoldable pub symbol : Rest → Operands → Result (Read ℕ) LineFault
symbol r seen = operand Symbol r seen

-- a label `@k`, by its digit
unfoldable pub label : Rest → Operands → Result (Read ℕ) LineFault
label r seen = operand Label r seen
