-- The parts of an instruction: what its transfers set, compare, store, and how they end.
use Rattle.std.specs.Prelude.{Bool, false, ◌==◌, if◌then◌else◌, List, [], ◌∷◌, Option, Some, None}
use Rattle.po_term.specs.declared.term.Reg.{Reg as Register}
use Rattle.po_term.specs.declared.term.Sym.{Sym}
use Rattle.po_term.specs.Tree.{Tree}
use Rattle.po_term.specs.Terms.{Place, InReg, AtSym}
use Rattle.po_term.specs.Moves.{Ending, Move, SetTo, CcTo, StoreTo, Ends}
use Rattle.po_term.specs.Simplified.{reg_eq, same_register}

-- the leaves of terms, and the registers and symbols that they stand for
pub record Leaves (L R S : Type 0) : Type 0 where
  -- both leaves are the same register
  pub same_register : L → L → Bool
  -- both leaves are the same register, or the same symbol
  pub same_leaf : L → L → Bool
  -- the leaf that is a register
  pub in_register : R → L
  -- the register that a leaf is, the symbol whose address it is
  pub register : L → Option R
  pub symbol : L → Option S
  -- a register is this fixed one; two registers, two symbols are the same
  pub is_fixed : Register → R → Bool
  pub register_eq : R → R → Bool
  pub symbol_eq : S → S → Bool

abbrev pub sym_eq : Sym → Sym → Bool
sym_eq s t = s.0 == t.0

-- both are the same register, or the same symbol
abbrev pub same_place : Place → Place → Bool
same_place (InReg r) (InReg q) = reg_eq r q
same_place (AtSym s) (AtSym t) = sym_eq s t
same_place p q = false

abbrev pub register_at : Place → Option Register
register_at (InReg r) = Some r
register_at (AtSym s) = None

abbrev pub symbol_at : Place → Option Sym
symbol_at (InReg r) = None
symbol_at (AtSym s) = Some s

-- the leaves of a code
abbrev pub code_leaves : Leaves Place Register Sym
code_leaves = record {
  same_register = same_register;
  same_leaf = same_place;
  in_register = InReg;
  register = register_at;
  symbol = symbol_at;
  is_fixed = reg_eq;
  register_eq = reg_eq;
  symbol_eq = sym_eq;
}

module _ {K L R S : Type 0} where
  -- the two terms that are compared
  abbrev pub cc_of : List (Move K L R S) → Option (Tree K L × Tree K L)
  cc_of [] = None
  cc_of (CcTo t u ∷ ms) = Some (t, u)
  cc_of (m ∷ ms) = cc_of ms

  -- the address and the value that are stored
  abbrev pub store_of : List (Move K L R S) → Option (Tree K L × Tree K L)
  store_of [] = None
  store_of (StoreTo t u ∷ ms) = Some (t, u)
  store_of (m ∷ ms) = store_of ms

  -- the transfer of control
  abbrev pub ending_of : List (Move K L R S) → Option (Ending K L S)
  ending_of [] = None
  ending_of (Ends e ∷ ms) = Some e
  ending_of (m ∷ ms) = ending_of ms

  -- the right side that a leaf is set to
  abbrev pub right_at : Leaves L R S → L → List (Move K L R S) → Option (Tree K L)
  right_at leaves l [] = None
  right_at leaves l (SetTo r t ∷ ms) = if leaves.same_register l (leaves.in_register r) then Some t
      else right_at leaves l ms
  right_at leaves l (m ∷ ms) = right_at leaves l ms
