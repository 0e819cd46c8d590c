-- A pattern as plain moves: its constants, registers and symbols are those of an entry.
use Rattle.std.specs.Prelude.{ℕ, List, map, Option}
use Rattle.po_word.specs.declared.operator.Rel.{Rel}
use Rattle.po_term.specs.Tree.{Tree, Const, Leaf, Read, Unary, Binary}
use Rattle.po_model.specs.declared.machine.Bounds.{Bounds}
use Rattle.po_model.specs.declared.machine.PatReg.{PatReg}
use Rattle.po_model.specs.declared.machine.PatTerm.{PatTerm}
use Rattle.po_model.specs.declared.machine.PatTerm.TheOpen.{PatTerm-F}
use Rattle.po_model.specs.declared.machine.PatTerm.TheFolds.{fold-PatTerm}
use Rattle.po_model.specs.declared.machine.PatCond.{PatCond}
use Rattle.po_model.specs.declared.machine.PatCond.TheVariants as cond
use Rattle.po_model.specs.declared.machine.PatTransfer.{PatTransfer}
use Rattle.po_model.specs.declared.machine.PatTransfer.TheVariants as transfer

-- a constant of a pattern: this one, or the operand k, in a range where it has one
pub data PatConst : Type 0 where
  Exactly : ℕ → PatConst
  Operand : ℕ → Option Bounds → PatConst

-- another leaf of a pattern: a register, or the address of the symbol k
pub data PatLeaf : Type 0 where
  InPatReg : PatReg → PatLeaf
  AtSymbol : ℕ → PatLeaf

abbrev pub PatTree : Type 0
PatTree = Tree PatConst PatLeaf

abbrev pub layer_of : PatTerm-F PatTree → PatTree
layer_of (PatTerm-F.Reg r) = Leaf (InPatReg r)
layer_of (PatTerm-F.Num n) = Const (Exactly n)
layer_of (PatTerm-F.Const k range) = Const (Operand k range)
layer_of (PatTerm-F.Addr k) = Leaf (AtSymbol k)
layer_of (PatTerm-F.Mem t) = Read t
layer_of (PatTerm-F.Un o t) = Unary o t
layer_of (PatTerm-F.Bin o t u) = Binary o t u

-- the term of a pattern as a plain tree
abbrev pub pattern_of : PatTerm → PatTree
pattern_of = fold-PatTerm PatTree layer_of

-- a transfer of a pattern, its labels and symbols by their operand's digit
pub data PatMove : Type 0 where
  SetsTo : PatReg → PatTree → PatMove
  Compares : PatTree → PatTree → PatMove
  Stores : PatTree → PatTree → PatMove
  Jumps : ℕ → PatMove
  Branches : Rel → ℕ → PatMove
  BranchesOn : PatTree → PatTree → Rel → ℕ → PatMove
  Calls : ℕ → PatMove
  Returns : PatMove

abbrev pub branch_of : PatCond → Rel → ℕ → PatMove
branch_of cond.Cc r k = Branches r k
branch_of (cond.Two t u) r k = BranchesOn (pattern_of t) (pattern_of u) r k

abbrev pub pat_move_of : PatTransfer → PatMove
pat_move_of (transfer.Set r t) = SetsTo r (pattern_of t)
pat_move_of (transfer.Cc t u) = Compares (pattern_of t) (pattern_of u)
pat_move_of (transfer.Store t u) = Stores (pattern_of t) (pattern_of u)
pat_move_of (transfer.Goto k) = Jumps k
pat_move_of (transfer.If c r k) = branch_of c r k
pat_move_of (transfer.Call k) = Calls k
pat_move_of transfer.Ret = Returns

abbrev pub pat_moves_of : List PatTransfer → List PatMove
pat_moves_of xs = map pat_move_of xs
