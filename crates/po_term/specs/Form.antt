-- Well-formed instructions. An instruction is a list of moves that are done at once.
use Rattle.std.specs.Prelude.{ℕ, ◌^◌, ◌<◌, ◌≤◌, ◌≡◌, ◌≢◌, length, All, AllPairs}
use Rattle.po_term.specs.declared.term.Reg.{Reg as Register}
use Rattle.po_term.specs.declared.term.Reg.TheVariants.{Virt, Fp, Rv, Arg}
use Rattle.po_term.specs.declared.term.Sym.{Sym}
use Rattle.po_term.specs.declared.term.Label.{Label}
use Rattle.po_term.specs.Tree.{Tree, tree_size, tree_depth, EachConst, EachLeaf}
use Rattle.po_term.specs.Terms.{Place, InReg, AtSym}
use Rattle.po_term.specs.Moves.{Ending, GoTo, IfCc, IfTwo, CallOf, Return, SetTo, CcTo, StoreTo, Ends, PlainMove}
use Rattle.po_term.specs.Moves.{PlainInstr}

-- a register whose number is in its range
abbrev pub IsRegister : Register → Type 0
IsRegister (Virt n) = n < 2 ^ 32
IsRegister Fp = Unit {0}
IsRegister Rv = Unit {0}
IsRegister (Arg n) = n ≤ 3

-- a register that has a name of its own: the frame, the result or an argument
abbrev pub IsFixed : Register → Type 0
IsFixed (Virt n) = ⊥
IsFixed Fp = Unit {0}
IsFixed Rv = Unit {0}
IsFixed (Arg n) = n ≤ 3

-- a register, or the address of a symbol, whose number is in its range
abbrev pub IsPlace : Place → Type 0
IsPlace (InReg r) = IsRegister r
IsPlace (AtSym s) = s.0 < 2 ^ 32

abbrev pub IsLabel : Label → Type 0
IsLabel l = l.0 < 2 ^ 32

pub record WellFormedTerm (t : Tree ℕ Place) : Type 0 where
  pub size : tree_size t ≤ 64
  pub depth : tree_depth t ≤ 16
  pub words : EachConst (λ c. c < 2 ^ 32) t
  pub places : EachLeaf IsPlace t

abbrev pub WellFormedEnding : Ending ℕ Place Sym → Type 0
WellFormedEnding (GoTo l) = IsLabel l
WellFormedEnding (IfCc r l) = IsLabel l
WellFormedEnding (IfTwo t u r l) = WellFormedTerm t × WellFormedTerm u × IsLabel l
WellFormedEnding (CallOf s n) = (s.0 < 2 ^ 32) × (n ≤ 4)
WellFormedEnding Return = Unit {0}

-- a move by itself: its terms and numbers are within their limits, and it doesn't set fp
abbrev pub WellFormedMove : PlainMove → Type 0
WellFormedMove (SetTo r t) = IsRegister r × (r ≢ Fp) × WellFormedTerm t
WellFormedMove (CcTo t u) = WellFormedTerm t × WellFormedTerm u
WellFormedMove (StoreTo t u) = WellFormedTerm t × WellFormedTerm u
WellFormedMove (Ends e) = WellFormedEnding e

-- the kinds in their order: sets, cc, store, control
abbrev pub kind_of : PlainMove → ℕ
kind_of (SetTo r t) = 0
kind_of (CcTo t u) = 1
kind_of (StoreTo t u) = 2
kind_of (Ends e) = 3

-- a move that sets the register
abbrev pub Sets : Register → PlainMove → Type 0
Sets r (SetTo q t) = q ≡ r
Sets r (CcTo t u) = ⊥
Sets r (StoreTo t u) = ⊥
Sets r (Ends e) = ⊥

-- what holds of a transfer m and a later one n of a list, by their kinds and by the registers that each sets
pub record InOrder {M R : Type 0} (kind : M → ℕ) (SetsIn : R → M → Type 0) (m n : M) : Type 0 where
  -- the kinds stand in their order
  pub in_order : kind m ≤ kind n
  -- only of sets there may be more than one
  pub once : kind m ≡ kind n → kind m ≡ 0
  -- no register is set twice
  pub apart : (r : R) → SetsIn r m → SetsIn r n → ⊥

-- of two moves of one instruction
abbrev pub GoesBefore : PlainMove → PlainMove → Type 0
GoesBefore m n = InOrder kind_of Sets m n

pub record WellFormed (ms : PlainInstr) : Type 0 where
  pub some : 1 ≤ length ms
  pub few : length ms ≤ 4
  pub pairs : AllPairs GoesBefore ms
  pub each : All WellFormedMove ms
