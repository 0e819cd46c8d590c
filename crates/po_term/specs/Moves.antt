-- Transfers without their boxes, over any kind of constants, other leaves, registers to be set, and symbols.
use Rattle.std.specs.Prelude.{ℕ, List, map}
use Rattle.po_word.specs.declared.operator.Rel.{Rel}
use Rattle.po_term.specs.declared.term.Reg.{Reg as Register}
use Rattle.po_term.specs.declared.term.Sym.{Sym}
use Rattle.po_term.specs.Tree.{Tree}
use Rattle.po_term.specs.Terms.{Place, tree_of}
use Rattle.po_term.specs.declared.term.Label.{Label}
use Rattle.po_term.specs.declared.transfer.Cond.{Cond}
use Rattle.po_term.specs.declared.transfer.Cond.TheVariants.{Two, Cc as OnCc}
use Rattle.po_term.specs.declared.transfer.Instr.{Instr}
use Rattle.po_term.specs.declared.transfer.Transfer.{Transfer}
use Rattle.po_term.specs.declared.transfer.Transfer.TheVariants.{Set, Cc, Store, Goto, If, Call, Ret}

-- a transfer of control
pub data Ending (K L S : Type 0) : Type 0 where
  GoTo : Label → Ending K L S
  IfCc : Rel → Label → Ending K L S
  IfTwo : Tree K L → Tree K L → Rel → Label → Ending K L S
  CallOf : S → ℕ → Ending K L S
  Return : Ending K L S

pub data Move (K L R S : Type 0) : Type 0 where
  SetTo : R → Tree K L → Move K L R S
  CcTo : Tree K L → Tree K L → Move K L R S
  StoreTo : Tree K L → Tree K L → Move K L R S
  Ends : Ending K L S → Move K L R S

-- a move of a code: its constants are words, its other leaves registers and symbols
abbrev pub PlainMove : Type 0
PlainMove = Move ℕ Place Register Sym

-- an instruction of a code
abbrev pub PlainInstr : Type 0
PlainInstr = List PlainMove

abbrev pub branch_of : Cond → Rel → Label → Ending ℕ Place Sym
branch_of OnCc r l = IfCc r l
branch_of (Two t u) r l = IfTwo (tree_of t) (tree_of u) r l

abbrev pub move_of : Transfer → PlainMove
move_of (Set r t) = SetTo r (tree_of t)
move_of (Cc t u) = CcTo (tree_of t) (tree_of u)
move_of (Store t u) = StoreTo (tree_of t) (tree_of u)
move_of (Goto l) = Ends (GoTo l)
move_of (If c r l) = Ends (branch_of c r l)
move_of (Call s n) = Ends (CallOf s n)
move_of Ret = Ends Return

abbrev pub moves_of : List Transfer → PlainInstr
moves_of xs = map move_of xs

-- an instruction, as its list of moves
abbrev pub instr_of : Instr → PlainInstr
instr_of i = moves_of i.xs.items

-- the instructions of a code
abbrev pub instrs_of : List Instr → List PlainInstr
instrs_of is = map instr_of is
