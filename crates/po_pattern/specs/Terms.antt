-- Whole terms. A term is read part by part: what is open stands on a stack of frames, the innermost first. A part of
-- more than 64 nodes or deeper than 16 is read for its form alone: none stands in place of its tree.
use Rattle.std.specs.Prelude.{ℕ, zero, suc, ◌+◌, ◌==◌, ◌&&◌, ◌||◌, nat_le, nat_eq, max, Bool, true, false, List, []}
use Rattle.std.specs.Prelude.{◌∷◌, length, codes, if◌then◌else◌, Result, Ok, Option, Some, None}
use Rattle.std.specs.List.{prefix_len, starts_with}
use Rattle.std.specs.Option.{option_map}
use Rattle.po_word.specs.declared.operator.Un.{Un}
use Rattle.po_word.specs.declared.operator.Un.TheVariants.{Neg, Not}
use Rattle.po_word.specs.declared.operator.Bin.{Bin}
use Rattle.po_word.specs.declared.operator.Bin.TheVariants.{Add, Sub, Mul, And, Or, Xor, Shl, Sar, Shr}
use Rattle.po_name.specs.Names.{is_digit, is_name_byte}
use Rattle.po_model.specs.declared.machine.PatReg.{PatReg}
use Rattle.po_model.specs.declared.machine.PatTerm.{PatTerm}
use Rattle.po_model.specs.declared.machine.PatTerm.TheVariants as pat
use Rattle.po_lines.specs.declared.fault.LineFault.{LineFault}
use Rattle.po_lines.specs.Faults.{◌>>=◌}
use Rattle.po_lines.specs.Leaves.{same}
use Rattle.po_pattern.specs.declared.operands.Operands.{Operands}
use Rattle.po_pattern.specs.declared.part.Part.{Part}
use Rattle.po_pattern.specs.declared.part.Frame.{Frame}
use Rattle.po_pattern.specs.declared.part.Frame.TheVariants as frame
use Rattle.po_pattern.specs.declared.part.Turn.{Turn}
use Rattle.po_pattern.specs.declared.part.Turn.TheVariants.{Opens, Whole}
use Rattle.po_pattern.specs.Rests.{Rest, Read, behind, skip_blanks, wrong, mark}
use Rattle.po_pattern.specs.Parts.{any_register, constant, symbol_address, numeral, fixed_register, name_here}

-- a part with this number of nodes and this depth, if it is within the limits
abbrev pub kept : PatTerm → ℕ → ℕ → Option Part
kept term size depth = if nat_le size 64 && nat_le depth 16
    then Some (record { term = term; size = size; depth = depth }) else None

abbrev pub memory_part : Option Part → Option Part
memory_part None = None
memory_part (Some p) = kept (pat.Mem p.term) (p.size + 1) (p.depth + 1)

abbrev pub unary_part : Un → Option Part → Option Part
unary_part op None = None
unary_part op (Some p) = kept (pat.Un op p.term) (p.size + 1) (p.depth + 1)

abbrev pub joined : Bin → Part → Part → Option Part
joined op p q = kept (pat.Bin op p.term q.term) (p.size + (q.size + 1)) (max p.depth q.depth + 1)

abbrev pub binary_part : Bin → Option Part → Option Part → Option Part
binary_part op None right = None
binary_part op (Some p) None = None
binary_part op (Some p) (Some q) = joined op p q

-- a part without parts of its own
abbrev pub leaf : Read PatTerm → Read Turn
leaf t = record { value = Whole (Some (record { term = t.value; size = 1; depth = 1 })); rest = t.rest; seen = t.seen }

abbrev pub of_register : Read PatReg → Read PatTerm
of_register r = record { value = pat.Reg r.value; rest = r.rest; seen = r.seen }

-- a register, a constant, a symbol's address, a number, by its first byte
unfoldable pub marked_leaf : ℕ → Rest → Operands → Result (Read PatTerm) LineFault
marked_leaf byte r seen = if byte == 37 then (do
  register ← any_register r seen
  Ok (of_register register))
    else (if byte == 35 then constant r seen
    else (if byte == 38 then symbol_address r seen
    else numeral r seen))

-- `M`, `neg` and `not` begin a part
abbrev pub opening : List ℕ → Option Frame
opening name = if same name (codes "M") then Some frame.Memory
    else (if same name (codes "neg") then Some (frame.Unary Neg)
    else (if same name (codes "not") then Some (frame.Unary Not)
    else None))

-- the byte behind that beginning: `[` or `(`
abbrev pub bracket : Frame → ℕ
bracket frame.Memory = 91
bracket _ = 40

-- a part that has begun with this name, or a register of this name
abbrev pub named_with : Rest → Operands → Option Frame → Result (Read Turn) LineFault
named_with r seen None = do
  register ← fixed_register r seen
  Ok (leaf (of_register register))
named_with r seen (Some frame) = do
  opened ← mark (bracket frame) (skip_blanks (behind (prefix_len is_name_byte r.bytes) r))
  Ok (record { value = Opens frame; rest = opened; seen = seen })

unfoldable pub named : Rest → Operands → Result (Read Turn) LineFault
named r seen = named_with r seen (opening (name_here r))

-- `%`, `#`, `&`, `-` and digits begin a part without parts of its own
abbrev pub begins_leaf : ℕ → Bool
begins_leaf byte = byte == 37 || byte == 35 || byte == 38 || byte == 45 || is_digit byte

-- what may stand where a term is wanted, by its first byte
abbrev pub wanted_with : Rest → Operands → List ℕ → Result (Read Turn) LineFault
wanted_with r seen [] = wrong r
wanted_with r seen (b ∷ bs) = if b == 40 then Ok (record { value = Opens frame.Left; rest = behind 1 r; seen = seen })
    else (if begins_leaf b then (do
      t ← marked_leaf b r seen
      Ok (leaf t))
    else named r seen)

unfoldable pub wanted : Rest → Operands → Result (Read Turn) LineFault
wanted r seen = wanted_with r seen r.bytes

-- an operator of one byte
abbrev pub short_operator_of : List ℕ → Option Bin
short_operator_of [] = None
short_operator_of (b ∷ bs) = if b == 43 then Some Add
    else (if b == 45 then Some Sub
    else (if b == 42 then Some Mul
    else (if b == 38 then Some And
    else (if b == 124 then Some Or
    else (if b == 94 then Some Xor
    else None)))))

-- the operator that stands here; of two that fit the longer one
abbrev pub operator_of : List ℕ → Option Bin
operator_of bytes = if starts_with nat_eq bytes (codes ">>>") then Some Shr
    else (if starts_with nat_eq bytes (codes ">>") then Some Sar
    else (if starts_with nat_eq bytes (codes "<<") then Some Shl
    else short_operator_of bytes))

-- how many bytes an operator has
abbrev pub operator_length : Bin → ℕ
operator_length Shr = 3
operator_length Sar = 2
operator_length Shl = 2
operator_length _ = 1

-- the operator behind the left operand
abbrev pub operator_with : Option Part → Rest → Operands → Option Bin → Result (Read Turn) LineFault
operator_with left r seen None = wrong r
operator_with left r seen (Some op) = Ok (record {
  value = Opens (frame.Right op left);
  rest = behind (operator_length op) r;
  seen = seen;
})

unfoldable pub operator : Option Part → Rest → Operands → Result (Read Turn) LineFault
operator left r seen = operator_with left r seen (operator_of r.bytes)

-- the byte that ends a part, which is now this one
unfoldable pub closed : ℕ → Option Part → Rest → Operands → Result (Read Turn) LineFault
closed byte part r seen = do
  close ← mark byte r
  Ok (record { value = Whole part; rest = close; seen = seen })

-- what may stand behind a whole part, by the innermost frame
unfoldable pub behind_whole : Frame → Option Part → Rest → Operands → Result (Read Turn) LineFault
behind_whole frame.Memory part r seen = closed 93 (memory_part part) r seen
behind_whole (frame.Unary op) part r seen = closed 41 (unary_part op part) r seen
behind_whole frame.Left part r seen = operator part r seen
behind_whole (frame.Right op left) part r seen = closed 41 (binary_part op left part) r seen

-- what was read of a term so far: the frames that are open, the innermost first, and the last part
pub record Reading : Type 0 where
  pub frames : List Frame
  pub turn : Read Turn

abbrev pub none_open : List Frame → Bool
none_open [] = true
none_open (frame ∷ frames) = false

-- a whole part stands and no frame is open
abbrev pub whole_with : List Frame → Turn → Bool
whole_with frames (Opens frame) = false
whole_with frames (Whole part) = none_open frames

abbrev pub is_whole : Reading → Bool
is_whole s = whole_with s.frames s.turn.value

-- one part more; where a whole part stands and no frame is open the term is whole
abbrev pub step_with : List Frame → Turn → Rest → Operands → Result Reading LineFault
step_with frames (Opens frame) r seen = do
  turn ← wanted (skip_blanks r) seen
  Ok (record { frames = frame ∷ frames; turn = turn })
step_with [] (Whole part) r seen =
    Ok (record { frames = []; turn = record { value = Whole part; rest = r; seen = seen } })
step_with (frame ∷ frames) (Whole part) r seen = do
  turn ← behind_whole frame part (skip_blanks r) seen
  Ok (record { frames = frames; turn = turn })

unfoldable pub step : Reading → Result Reading LineFault
step s = step_with s.frames s.turn.value s.turn.rest s.turn.seen

-- so many parts more
unfoldable pub steps : ℕ → Reading → Result Reading LineFault
steps zero s = Ok s
steps (suc n) s = do
  t ← step s
  steps n t

-- the tree of a whole part that is within the limits
abbrev pub whole_of : Turn → Option PatTerm
whole_of (Opens frame) = None
whole_of (Whole part) = option_map (λ p. p.term) part

-- a whole term; as each part has a byte, the term is whole behind as many parts as bytes are left
unfoldable pub term : Rest → Operands → Result (Read (Option PatTerm)) LineFault
term r seen = do
  first ← wanted (skip_blanks r) seen
  last ← steps (length r.bytes) (record { frames = []; turn = first })
  Ok (record { value = whole_of last.turn.value; rest = last.turn.rest; seen = last.turn.seen })

-- the address in `M[t]`
unfoldable pub address : Rest → Operands → Result (Read (Option PatTerm)) LineFault
address r seen = if same (name_here r) (codes "M") then (do
  opened ← mark 91 (skip_blanks (behind (prefix_len is_name_byte r.bytes) r))
  t ← term opened seen
  close ← mark 93 (skip_blanks t.rest)
  Ok (record { value = t.value; rest = close; seen = t.seen }))
    else wrong r
