-- What the lines of a text say, one behind the other, or the first fault that a line decides.
use Rattle.std.specs.Prelude.{◌≡◌, ℕ, ◌+◌, ◌≤◌, List, [], ◌∷◌, ◌++◌, length, map, codes, ◌==◌, if◌then◌else◌, Result}
use Rattle.std.specs.Prelude.{Ok, Err, Option, Some, None, option_map, ⊤}
use Rattle.po_text.specs.declared.fault.Kind.TheVariants as kind
use Rattle.po_text.specs.declared.fault.Spot.{Spot}
use Rattle.po_text.specs.declared.fault.TextRefusal.{TextRefusal}
use Rattle.po_text.specs.declared.fault.TextRefusal.TheVariants as refusal
use Rattle.po_lines.specs.declared.fault.LineFault.{LineFault}
use Rattle.po_lines.specs.Faults.{◌>>=◌, fault, TextFault, text_fault, at_line}
use Rattle.po_lines.specs.Forms.{says_nothing, no_more, name_alone}
use Rattle.po_lines.specs.Leaves.{same}
use Rattle.po_lines.specs.Limit.{within_limit}
use Rattle.po_lines.specs.Lines.{Numbered, lines_behind, line_behind}
use Rattle.po_lines.specs.NameList.{has}
use Rattle.po_lines.specs.Reading.{read_each}
use Rattle.po_lines.specs.Words.{Placed, line_words}
use Rattle.po_ir.specs.declared.begun.Begun.{Begun}
use Rattle.po_ir.specs.declared.state.State.{State}
use Rattle.po_ir.specs.declared.unit.Op.{Op}
use Rattle.po_ir.specs.declared.unit.Jump.{Jump}
use Rattle.po_ir.specs.declared.unit.Key.{Key}
use Rattle.po_ir.specs.declared.unit.Unit.{Unit}
use Rattle.po_ir.specs.Faults.{decided, end_fault}
use Rattle.po_ir.specs.Keys.{key_of_word}
use Rattle.po_ir.specs.Lines.{op_in, second_column}
use Rattle.po_ir.specs.Ops.{target_in, depth_of, labels_of, args_of, ends_well}

-- a unit that has begun: its name, its operations so far, and their jumps with the labels' places
pub record Open : Type 0 where
  pub name : List ℕ
  pub ops : List Op
  pub jumps : List Jump

-- what was read so far: the units that have ended, and the one that has begun
pub record Sofar : Type 0 where
  pub units : List Unit
  pub inside : Option Open

-- a value, unless there is a fault
abbrev pub unless : {A E : Type 0} → Option E → A → Result A E
unless None x = Ok x
unless (Some e) x = Err e

abbrev pub jumps_in : ℕ → ℕ → Op → List Jump
jumps_in line column o = map (λ l. record { line = line; column = column; label = l }) (target_in o)

-- one more operation, whose label stands at this place
unfoldable pub with_op : ℕ → ℕ → Open → Op → Result Open LineFault
with_op line column u o =
    unless (decided u.ops o column)
    (record { name = u.name; ops = u.ops ++ o ∷ []; jumps = u.jumps ++ jumps_in line column o })

-- a line that begins with an operation's word
unfoldable pub op_line : ℕ → Open → Key → List Placed → ℕ → Result Open LineFault
op_line line u k ws end = if length u.ops == 65536 then Err (fault 1 kind.TooMany) else (do
  o ← op_in k ws end
  with_op line (second_column ws) u o)

-- a unit with these operations and jumps may end in this line
abbrev pub may_end : ℕ → List Op → List Jump → Result ⊤ TextFault
may_end line os js = unless (end_fault line os js) tt

-- behind `end`
unfoldable pub closed : ℕ → List Unit → Open → Result Sofar TextFault
closed line us u = do
  nothing ← may_end line u.ops u.jumps
  Ok (record { units = us ++ record { name = u.name; ops = u.ops } ∷ []; inside = None })

-- a line inside a unit that doesn't begin with `end`
unfoldable pub key_line : ℕ → List Unit → Open → Option Key → Placed → List Placed → ℕ → Result Sofar TextFault
key_line line us u None w ws end = Err (text_fault line w.column kind.Word)
key_line line us u (Some k) w ws end = do
  v ← at_line line (op_line line u k ws end)
  Ok (record { units = us; inside = Some v })

-- a line inside a unit
unfoldable pub inside_line : ℕ → List Unit → Open → Placed → List Placed → ℕ → Result Sofar TextFault
inside_line line us u w ws end = if same w.bytes (codes "end") then (do
  nothing ← at_line line (no_more ws)
  closed line us u)
    else key_line line us u (key_of_word w.bytes) w ws end

abbrev pub unit_name : Unit → List ℕ
unit_name u = u.name

-- a unit begins
unfoldable pub begun_with : ℕ → List Unit → ℕ → List ℕ → Result Sofar TextFault
begun_with line us column name = if has name (map unit_name us) then Err (text_fault line column kind.Duplicate)
    else Ok (record { units = us; inside = Some (record { name = name; ops = []; jumps = [] }) })

-- a line between units
unfoldable pub outside_line : ℕ → List Unit → Placed → List Placed → ℕ → Result Sofar TextFault
outside_line line us w ws end = if same w.bytes (codes "unit") then
    (if length us == 65536 then Err (text_fault line 1 kind.TooMany) else (do
      name ← at_line line (name_alone ws end)
      begun_with line us (second_column ws) name))
    else Err (text_fault line w.column kind.Word)

unfoldable pub some_line : ℕ → List Unit → Option Open → Placed → List Placed → ℕ → Result Sofar TextFault
some_line line us None w ws end = outside_line line us w ws end
some_line line us (Some u) w ws end = inside_line line us u w ws end

-- a line from its words; one that says nothing is passed over
unfoldable pub words_line : ℕ → Sofar → List Placed → ℕ → Result Sofar TextFault
words_line line s [] end = Ok s
words_line line s (w ∷ ws) end = if says_nothing (w ∷ ws) then Ok s else some_line line s.units s.inside w ws end

-- what is read behind one more line
unfoldable pub step : Sofar → Numbered → Result Sofar TextFault
step s l = do
  ws ← at_line l.number (line_words l.bytes)
  words_line l.number s ws (length l.bytes + 1)

abbrev pub nothing_yet : Sofar
nothing_yet = record { units = []; inside = None }

-- the text ends, before this line
unfoldable pub finish : ℕ → List Unit → Option Open → Result (List Unit) TextFault
finish line us None = Ok us
finish line us (Some u) = Err (text_fault line 1 kind.Word)

-- the units that these lines write, or their first fault; `line` is the number of the line behind the last
unfoldable pub units_in : List Numbered → ℕ → Result (List Unit) TextFault
units_in ls line = do
  s ← read_each step nothing_yet ls
  finish line s.units s.inside

-- the units of a text from a place on, or the first fault; a text that is too long has that fault before any of a line
abbrev pub units_behind : Spot → List ℕ → Result (List Unit) TextFault
units_behind at text = within_limit text (units_in (lines_behind at text) (line_behind at text))

-- the state of the code that reads a unit, as the unit that has begun
abbrev pub shown : Begun → Open
shown b = record { name = b.name; ops = b.ops; jumps = b.jumps }

-- what the code keeps beside it is what the operations so far say
pub record IsKept (b : Begun) : Type 0 where
  pub depth : b.depth ≡ depth_of b.ops
  pub short : b.depth ≤ 64
  pub labels : b.labels ≡ labels_of b.ops
  pub args : b.args ≡ args_of b.ops
  pub ended : b.ended ≡ ends_well b.ops

-- the state of the code that reads the text, as what was read so far
abbrev pub state_shown : State → Sofar
state_shown s = record { units = s.units; inside = option_map shown s.inside }

abbrev pub IfKept : Option Begun → Type 0
IfKept None = ⊤
IfKept (Some b) = IsKept b

abbrev pub begun_names : Option Begun → List (List ℕ)
begun_names None = []
begun_names (Some b) = b.name ∷ []

pub record IsState (s : State) : Type 0 where
  pub names : s.names ≡ map unit_name s.units ++ begun_names s.inside
  pub inside : IfKept s.inside

-- the answer of a call that stores, with want of memory as the refusal of a text
abbrev pub stored : {A E : Type 0} → Result A E → Result A TextRefusal
stored (Ok x) = Ok x
stored (Err e) = Err refusal.OutOfMemory
