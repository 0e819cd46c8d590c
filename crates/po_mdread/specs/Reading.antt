-- What the lines of a description say of its machine, one behind the other, or the first fault that a line decides.
use Rattle.std.specs.Prelude.{◌≡◌, ℕ, ◌+◌, ◌≤◌, List, [], ◌∷◌, ◌++◌, length, codes, Bool, true, false, ◌==◌}
use Rattle.std.specs.Prelude.{if◌then◌else◌, Result, Ok, Err}
use Rattle.po_text.specs.declared.fault.Kind.TheVariants as kind
use Rattle.po_text.specs.declared.fault.Spot.{Spot}
use Rattle.po_lines.specs.declared.fault.LineFault.{LineFault}
use Rattle.po_lines.specs.Faults.{◌>>=◌, fault, TextFault, text_fault, at_line}
use Rattle.po_lines.specs.Forms.{says_nothing, no_more, name_alone}
use Rattle.po_lines.specs.Leaves.{keyword_in, same}
use Rattle.po_lines.specs.Limit.{within_limit}
use Rattle.po_lines.specs.Lines.{Numbered, lines_behind, line_behind}
use Rattle.po_lines.specs.Reading.{read_each}
use Rattle.po_lines.specs.Words.{Placed, line_words}
use Rattle.po_model.specs.declared.machine.Entry.{Entry}
use Rattle.po_model.specs.declared.machine.Machine.{Machine}
use Rattle.po_entry.specs.Reading.{entry_in}
use Rattle.po_mdread.specs.declared.sofar.Sofar.{Sofar}
use Rattle.po_mdread.specs.declared.sofar.Sofar.TheVariants.{ToMachine, ToFrame, ToResult, ToArgs, ToRegs, ToEntries}
use Rattle.po_mdread.specs.declared.sofar.Sofar.TheVariants.{Ended}
use Rattle.po_mdread.specs.declared.sofar.State.{State}
use Rattle.po_mdread.specs.NameLines.{four_names, register_names, with_new}

-- the names of registers so far, which later ones have to differ from
abbrev pub names_sofar : Sofar → List (List ℕ)
names_sofar ToMachine = []
names_sofar (ToFrame name) = []
names_sofar (ToResult name frame) = frame ∷ []
names_sofar (ToArgs name frame result) = frame ∷ result ∷ []
names_sofar (ToRegs name frame result args) = frame ∷ result ∷ args
names_sofar (ToEntries m) = m.frame ∷ m.result ∷ (m.args ++ m.regs)
names_sofar (Ended m at) = m.frame ∷ m.result ∷ (m.args ++ m.regs)

-- `machine` and a name
unfoldable pub machine_line : Placed → List Placed → ℕ → Result Sofar LineFault
machine_line w ws end = do
  nothing ← keyword_in (codes "machine") w
  name ← name_alone ws end
  Ok (ToFrame name)

-- `frame` and a name
unfoldable pub frame_line : List ℕ → Placed → List Placed → ℕ → Result Sofar LineFault
frame_line name w ws end = do
  nothing ← keyword_in (codes "frame") w
  frame ← name_alone ws end
  Ok (ToResult name frame)

-- `result` and a new name
unfoldable pub result_line : List ℕ → List ℕ → Placed → List Placed → ℕ → Result Sofar LineFault
result_line name frame w ws end = do
  nothing ← keyword_in (codes "result") w
  result ← name_alone ws end
  names ← with_new (frame ∷ []) ws
  Ok (ToArgs name frame result)

-- `args` and four new names
unfoldable pub args_line : List ℕ → List ℕ → List ℕ → Placed → List Placed → ℕ → Result Sofar LineFault
args_line name frame result w ws end = do
  nothing ← keyword_in (codes "args") w
  args ← four_names ws end
  names ← with_new (frame ∷ result ∷ []) ws
  Ok (ToRegs name frame result args)

-- `regs` and 1 to 64 new names
unfoldable pub regs_line : List ℕ → List ℕ → List ℕ → List (List ℕ) → Placed → List Placed → ℕ → Result Sofar LineFault
regs_line name frame result args w ws end = do
  nothing ← keyword_in (codes "regs") w
  regs ← register_names ws end
  names ← with_new (frame ∷ result ∷ args) ws
  Ok (ToEntries (record { name = name; frame = frame; result = result; args = args; regs = regs; entries = [] }))

-- the place behind a line
abbrev pub behind : Numbered → Spot
behind l = record { offset = l.after; line = l.number + 1 }

abbrev pub with_entry : Machine → Entry → Machine
with_entry m e = record {
  name = m.name;
  frame = m.frame;
  result = m.result;
  args = m.args;
  regs = m.regs;
  entries = m.entries ++ e ∷ [];
}

-- an `insn` line; there may be 512
unfoldable pub insn_line : Machine → Numbered → Result Sofar LineFault
insn_line m l = if length m.entries == 512 then Err (fault 1 kind.TooMany) else (do
  e ← entry_in l.bytes
  Ok (ToEntries (with_entry m e)))

-- `end`, and no further word
unfoldable pub end_line : Machine → Numbered → List Placed → Result Sofar LineFault
end_line m l ws = do
  nothing ← no_more ws
  Ok (Ended m (behind l))

-- a line behind the head lines
unfoldable pub entry_line : Machine → Numbered → Placed → List Placed → Result Sofar LineFault
entry_line m l w ws = if same w.bytes (codes "insn") then insn_line m l
    else (if same w.bytes (codes "end") then end_line m l ws else Err (fault w.column kind.Word))

-- a line that says something
unfoldable pub some_line : Sofar → Numbered → Placed → List Placed → Result Sofar LineFault
some_line ToMachine l w ws = machine_line w ws (length l.bytes + 1)
some_line (ToFrame name) l w ws = frame_line name w ws (length l.bytes + 1)
some_line (ToResult name frame) l w ws = result_line name frame w ws (length l.bytes + 1)
some_line (ToArgs name frame result) l w ws = args_line name frame result w ws (length l.bytes + 1)
some_line (ToRegs name frame result args) l w ws = regs_line name frame result args w ws (length l.bytes + 1)
some_line (ToEntries m) l w ws = entry_line m l w ws
some_line (Ended m at) l w ws = Ok (Ended m at)

-- a line from its words; one that says nothing is passed over
unfoldable pub words_line : Sofar → Numbered → List Placed → Result Sofar LineFault
words_line s l [] = Ok s
words_line s l (w ∷ ws) = if says_nothing (w ∷ ws) then Ok s else some_line s l w ws

-- what is read behind one more line
unfoldable pub line_in : Sofar → Numbered → Result Sofar LineFault
line_in s l = do
  ws ← line_words l.bytes
  words_line s l ws

abbrev pub has_ended : Sofar → Bool
has_ended ToMachine = false
has_ended (ToFrame name) = false
has_ended (ToResult name frame) = false
has_ended (ToArgs name frame result) = false
has_ended (ToRegs name frame result args) = false
has_ended (ToEntries m) = false
has_ended (Ended m at) = true

-- behind `end` no line is looked at
unfoldable pub step : Sofar → Numbered → Result Sofar TextFault
step s l = if has_ended s then Ok s else at_line l.number (line_in s l)

-- the text ends, before this line
unfoldable pub finish : ℕ → Sofar → Result (Machine × Spot) TextFault
finish line ToMachine = Err (text_fault line 1 kind.Word)
finish line (ToFrame name) = Err (text_fault line 1 kind.Word)
finish line (ToResult name frame) = Err (text_fault line 1 kind.Word)
finish line (ToArgs name frame result) = Err (text_fault line 1 kind.Word)
finish line (ToRegs name frame result args) = Err (text_fault line 1 kind.Word)
finish line (ToEntries m) = Err (text_fault line 1 kind.Word)
finish line (Ended m at) = Ok (m, at)

-- the machine that these lines describe and the place behind its `end`, or the first fault; `line` is the number of
-- the line behind the last
unfoldable pub described : List Numbered → ℕ → Result (Machine × Spot) TextFault
described ls line = do
  s ← read_each step ToMachine ls
  finish line s

-- where a text begins
abbrev pub start : Spot
start = record { offset = 0; line = 1 }

-- the machine that a text begins with, and the place behind its `end`, or the first fault; a text that is too long has
-- that fault before any of a line
abbrev pub machine_in : List ℕ → Result (Machine × Spot) TextFault
machine_in text = within_limit text (described (lines_behind start text) (line_behind start text))

-- a place behind some of the lines of a text
pub record IsSpotIn (text : List ℕ) (at : Spot) : Type 0 where
  pub within : at.offset ≤ length text
  pub counted : at.line ≤ at.offset + 1
  -- the lines before it, and those that are left
  pub front : List Numbered
  pub cut : lines_behind start text ≡ front ++ lines_behind at text

-- what the code keeps beside what was read: the names
abbrev pub IsState : State → Type 0
IsState s = s.names ≡ names_sofar s.sofar
