-- A unit's code as plain data, and what every such code has.
use Rattle.std.specs.Prelude.{ℕ, ◌<◌, ◌^◌, ◌≡◌, ◌≢◌, true, List, [], ◌∷◌, ◌++◌, length, All, AllPairs, Contains}
use Rattle.std.specs.Prelude.{Option, Some, None, ⊤}
use Rattle.std.specs.List.{flat_map}
use Rattle.po_term.specs.declared.term.Reg.TheVariants.{Virt}
use Rattle.po_term.specs.declared.term.Sym.{Sym}
use Rattle.po_term.specs.declared.term.Label.{Label}
use Rattle.po_term.specs.Tree.{EachLeaf}
use Rattle.po_term.specs.Terms.{Place, InReg, AtSym}
use Rattle.po_term.specs.Moves.{Ending, GoTo, IfCc, IfTwo, CallOf, Return, SetTo, CcTo, StoreTo, Ends, PlainMove}
use Rattle.po_term.specs.Moves.{PlainInstr}
use Rattle.po_term.specs.Form.{WellFormed}
use Rattle.po_model.specs.declared.code.UnitCode.{UnitCode}
use Rattle.po_model.specs.declared.var.Var.TheVariants.{Reg}
use Rattle.po_model.specs.Blocks.{PlainBlock, code_of, IsCode}
use Rattle.po_model.specs.LiveAfter.{reads}

-- a unit's name, the names of its labels and symbols by their numbers, and its blocks
pub record PlainUnit : Type 0 where
  pub name : List ℕ
  pub labels : List (List ℕ)
  pub syms : List (List ℕ)
  pub code : List PlainBlock

abbrev pub unit_of : UnitCode → PlainUnit
unit_of u = record { name = u.name; labels = u.labels.items; syms = u.syms.items; code = code_of u.code }

-- the instructions of all blocks, one behind the other
abbrev pub flat : List PlainBlock → List PlainInstr
flat code = flat_map (λ b. b.instrs) code

-- the virtual registers that a list of moves sets, in the order of the list
abbrev pub written : PlainInstr → List ℕ
written [] = []
written (SetTo (Virt v) t ∷ ms) = v ∷ written ms
written (m ∷ ms) = written ms

abbrev pub all_written : List PlainInstr → List ℕ
all_written is = flat_map written is

-- the instructions behind these ones read the virtual registers that these set, and no others
abbrev pub ReadsBehind : List ℕ → List PlainInstr → Type 0
ReadsBehind set [] = ⊤
ReadsBehind set (i ∷ is) = ((v : ℕ) → reads i (Reg (Virt v)) ≡ true → Contains set v) × ReadsBehind (set ++ written i)
    is

-- each virtual register is set at most once, and read only by later instructions of the block that sets it
pub record IsStraight (code : List PlainBlock) : Type 0 where
  pub once : AllPairs (λ v w. v ≢ w) (all_written (flat code))
  pub behind : All (λ b. ReadsBehind [] b.instrs) code

-- the labels and symbols of a term, of a transfer, below these numbers
abbrev pub HasSym : ℕ → Place → Type 0
HasSym n (InReg r) = ⊤
HasSym n (AtSym s) = s.0 < n

abbrev pub NamedEnding : ℕ → ℕ → Ending ℕ Place Sym → Type 0
NamedEnding labels syms (GoTo l) = l.0 < labels
NamedEnding labels syms (IfCc r l) = l.0 < labels
NamedEnding labels syms (IfTwo t u r l) = EachLeaf (HasSym syms) t × EachLeaf (HasSym syms) u × (l.0 < labels)
NamedEnding labels syms (CallOf s n) = s.0 < syms
NamedEnding labels syms Return = ⊤

abbrev pub NamedMove : ℕ → ℕ → PlainMove → Type 0
NamedMove labels syms (SetTo r t) = EachLeaf (HasSym syms) t
NamedMove labels syms (CcTo t u) = EachLeaf (HasSym syms) t × EachLeaf (HasSym syms) u
NamedMove labels syms (StoreTo t u) = EachLeaf (HasSym syms) t × EachLeaf (HasSym syms) u
NamedMove labels syms (Ends e) = NamedEnding labels syms e

abbrev pub NamedLabel : ℕ → Option Label → Type 0
NamedLabel labels None = ⊤
NamedLabel labels (Some l) = l.0 < labels

-- every label and symbol has its name
pub record IsNamedBlock (labels syms : ℕ) (b : PlainBlock) : Type 0 where
  pub label : NamedLabel labels b.label
  pub instrs : All (λ i. All (NamedMove labels syms) i) b.instrs

abbrev pub IsNamed : PlainUnit → Type 0
IsNamed u = All (IsNamedBlock (length u.labels) (length u.syms)) u.code

-- a code whose instructions are well formed, and in which a control transfer stands only in the last instruction of a
-- block
pub record IsFormedCode (code : List PlainBlock) : Type 0 where
  pub ends_last : IsCode code
  pub formed : All (λ b. All WellFormed b.instrs) code

-- a code that can be placed
pub record IsPlaceable (code : List PlainBlock) : Type 0 where
  pub form : IsFormedCode code
  pub straight : IsStraight code
  pub few_instrs : length (flat code) < 2 ^ 29
  pub few_blocks : length code < 2 ^ 32

-- a unit that can be placed, and in which each label and symbol has its name
pub record IsUnitCode (u : PlainUnit) : Type 0 where
  pub placeable : IsPlaceable u.code
  pub named : IsNamed u
