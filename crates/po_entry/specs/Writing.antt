-- How the line of an entry may be written, told from the entry and not from how a line is read: its printed text, with
-- blanks where they may stand and each number in any spelling. A form says between which bytes and which rest of them
-- it stands.
use Rattle.std.specs.Prelude.{◌≡◌, ℕ, List, [], ◌∷◌, ◌++◌, codes, Bool, true, false, ℤ, Option, Some, None}
use Rattle.std.specs.List.{list_all}
use Rattle.po_word.specs.Words.{signed}
use Rattle.po_text.specs.Words.{is_blank}
use Rattle.po_text.specs.Number.{number_of}
use Rattle.po_term.specs.Tree.{Const, Leaf, Read, Unary, Binary}
use Rattle.po_termtext.specs.TermText.{un_text, bin_text, rel_text}
use Rattle.po_model.specs.declared.machine.Bounds.{Bounds}
use Rattle.po_model.specs.declared.machine.Entry.{Entry}
use Rattle.po_model.specs.Patterns.{PatConst, Exactly, Operand, PatTree, PatMove, SetsTo, Compares, Stores, Jumps}
use Rattle.po_model.specs.Patterns.{Branches, BranchesOn, Calls, Returns, pat_moves_of}
use Rattle.po_entry.specs.EntryText.{operand_text, pat_reg_text, pat_leaf_text, template_text}

abbrev pub Form : Type 1
Form = List ℕ → List ℕ → Type 0

-- nothing
abbrev pub nothing : Form
nothing from to = from ≡ to

-- these bytes
abbrev pub text : List ℕ → Form
text bytes from to = from ≡ bytes ++ to

-- one form, and another right behind it
infixr 6 ◌⨾◌
abbrev pub ◌⨾◌ : Form → Form → Form
(f ⨾ g) from to = (between : List ℕ) × f from between × g between to

-- any number of spaces and tabs
abbrev pub blanks : Form
blanks from to = (bytes : List ℕ) × (list_all is_blank bytes ≡ true) × (from ≡ bytes ++ to)

-- an optional `-` and 1 to 10 digits that have this value
abbrev pub number : ℤ → Form
number n from to = (bytes : List ℕ) × (number_of bytes ≡ Some n) × (from ≡ bytes ++ to)

-- `[lo,hi]`
abbrev pub range : Option Bounds → Form
range None = nothing
range (Some b) = blanks ⨾ text (codes "[") ⨾ blanks ⨾ number b.lo ⨾ blanks ⨾ text (codes ",") ⨾ blanks ⨾ number b.hi
    ⨾ blanks ⨾ text (codes "]")

abbrev pub constant : PatConst → Form
constant (Exactly n) = number (signed n)
constant (Operand k bounds) = text (operand_text (codes "#") k) ⨾ range bounds

-- `M[t]`, `neg(t)`, `not(t)`, `(t op u)`: between two parts of a term blanks may stand
abbrev pub term : PatTree → Form
term (Const c) = constant c
term (Leaf l) = text (pat_leaf_text l)
term (Read t) = text (codes "M") ⨾ blanks ⨾ text (codes "[") ⨾ blanks ⨾ term t ⨾ blanks ⨾ text (codes "]")
term (Unary o t) = text (un_text o) ⨾ blanks ⨾ text (codes "(") ⨾ blanks ⨾ term t ⨾ blanks ⨾ text (codes ")")
term (Binary o t u) = text (codes "(") ⨾ blanks ⨾ term t ⨾ blanks ⨾ text (bin_text o) ⨾ blanks ⨾ term u ⨾ blanks
    ⨾ text (codes ")")

-- a blank, or the end of the line
abbrev pub ends_here : List ℕ → Bool
ends_here [] = true
ends_here (b ∷ bs) = is_blank b

-- what stands alone: blanks stand behind it, or the line ends
abbrev pub alone : Form → Form
alone f from to = (between : List ℕ) × f from between × (ends_here between ≡ true) × blanks between to

abbrev pub word : List ℕ → Form
word bytes = alone (text bytes)

-- `t ? u`
abbrev pub two : PatTree → PatTree → Form
two t u = alone (term t) ⨾ word (codes "?") ⨾ alone (term u)

-- `goto @k`
abbrev pub jump : ℕ → Form
jump k = word (codes "goto") ⨾ word (operand_text (codes "@") k)

-- `r := t`, `cc := t ? u`, `M[t] := u`, `goto @k`, `if cc REL goto @k`, `if t ? u REL goto @k`, `call &k`, `ret`
abbrev pub move : PatMove → Form
move (SetsTo r t) = word (pat_reg_text r) ⨾ word (codes ":=") ⨾ alone (term t)
move (Compares t u) = word (codes "cc") ⨾ word (codes ":=") ⨾ two t u
move (Stores t u) = alone (term (Read t)) ⨾ word (codes ":=") ⨾ alone (term u)
move (Jumps k) = jump k
move (Branches r k) = word (codes "if") ⨾ word (codes "cc") ⨾ word (rel_text r) ⨾ jump k
move (BranchesOn t u r k) = word (codes "if") ⨾ two t u ⨾ word (rel_text r) ⨾ jump k
move (Calls k) = word (codes "call") ⨾ word (operand_text (codes "&") k)
move Returns = word (codes "ret")

-- further transfers, each behind a `;`
abbrev pub others : List PatMove → Form
others [] = nothing
others (m ∷ ms) = word (codes ";") ⨾ move m ⨾ others ms

abbrev pub pattern : List PatMove → Form
pattern [] = nothing
pattern (m ∷ ms) = move m ⨾ others ms

abbrev pub clobber : Bool → Form
clobber false = nothing
clobber true = word (codes "clobber") ⨾ word (codes "cc")

-- the line of an entry: behind `=>` one space, and then the template up to the line's end
abbrev pub IsWritten : Entry → List ℕ → Type 0
IsWritten e line = (blanks ⨾ word (codes "insn") ⨾ pattern (pat_moves_of e.pattern) ⨾ clobber e.clobbers
    ⨾ text (codes "=> ") ⨾ text (template_text e.template)) line []
