use Rattle.std.specs.Prelude.{ℕ, ◌<◌, ◌^◌, ◌==◌, if◌then◌else◌, Option}
use Rattle.po_word.specs.Words.{un_value, bin_value}
use Rattle.po_term.specs.declared.term.Term.{Term}
use Rattle.po_term.specs.declared.term.Term.{Num, Reg, Addr, Mem', Un', Bin'}
use Rattle.po_term.specs.declared.term.Reg.{Reg as Register}
use Rattle.po_term.specs.declared.term.Sym.{Sym}
use Rattle.po_term.specs.Tree.{Tree, Const, Leaf, Read, Unary, Binary}

-- a leaf that is no constant: a register, or the address of a symbol
pub data Place : Type 0 where
  InReg : Register → Place
  AtSym : Sym → Place

-- a term of a code
abbrev pub PlainTerm : Type 0
PlainTerm = Tree ℕ Place

-- the term as a plain tree, without its boxes
abbrev pub tree_of : Term → PlainTerm
tree_of (Num c) = Const c
tree_of (Reg r) = Leaf (InReg r)
tree_of (Addr s) = Leaf (AtSym s)
tree_of (Mem' p x) = Read (tree_of x)
tree_of (Un' o p x) = Unary o (tree_of x)
tree_of (Bin' o p x q y) = Binary o (tree_of x) (tree_of y)

-- a number for each register, symbol and address, and the pair that was compared last, or none
pub record State : Type 0 where
  pub place : Place → ℕ
  pub memory : ℕ → ℕ
  pub cc : Option (ℕ × ℕ)

-- all of them are words
pub record IsState (s : State) : Type 0 where
  pub places : (p : Place) → s.place p < 2 ^ 32
  pub cells : (a : ℕ) → s.memory a < 2 ^ 32

-- the state with one more word stored
abbrev pub stored : ℕ → ℕ → State → State
stored a w s = record s { memory = λ b. if b == a then w else s.memory b }

-- the word of a term in a state
abbrev pub value : State → PlainTerm → ℕ
value s (Const c) = c
value s (Leaf l) = s.place l
value s (Read x) = s.memory (value s x)
value s (Unary o x) = un_value o (value s x)
value s (Binary o x y) = bin_value o (value s x) (value s y)
