-- The entries that a description may have.
use Rattle.std.specs.Prelude.{ℕ, ◌<◌, ◌≤◌, ◌≡◌, ◌≢◌, ◌^◌, pos, negsuc, int_le, List, [], ◌∷◌, ◌++◌, length, flat_map}
use Rattle.std.specs.Prelude.{All, AllPairs, Contains, Bool, true, false, IsTrue, Option, Some, None, ⊤}
use Rattle.po_term.specs.declared.term.Reg.TheVariants.{Fp}
use Rattle.po_term.specs.Tree.{Const, Leaf, Read, Unary, Binary, tree_size, tree_depth, EachConst, EachLeaf}
use Rattle.po_term.specs.Form.{IsFixed, InOrder}
use Rattle.po_model.specs.declared.machine.Bounds.{Bounds}
use Rattle.po_model.specs.declared.machine.PatReg.{PatReg}
use Rattle.po_model.specs.declared.machine.PatReg.TheVariants as register
use Rattle.po_model.specs.declared.machine.Piece.{Piece}
use Rattle.po_model.specs.declared.machine.Piece.TheVariants as piece
use Rattle.po_model.specs.declared.machine.Entry.{Entry}
use Rattle.po_model.specs.Patterns.{PatConst, Exactly, Operand, PatLeaf, InPatReg, AtSymbol, PatTree, PatMove, SetsTo}
use Rattle.po_model.specs.Patterns.{Compares, Stores, Jumps, Branches, BranchesOn, Calls, Returns, pat_moves_of}

abbrev pub IsPatReg : PatReg → Type 0
IsPatReg (register.Any k) = k < 10
IsPatReg (register.Fixed r) = IsFixed r

-- a range of signed words, which has at least one
pub record IsRange (b : Bounds) : Type 0 where
  pub from : IsTrue (int_le (negsuc 2147483647) b.lo)
  pub order : IsTrue (int_le b.lo b.hi)
  pub to : IsTrue (int_le b.hi (pos 2147483647))

abbrev pub HasRange : Option Bounds → Type 0
HasRange None = ⊤
HasRange (Some b) = IsRange b

abbrev pub IsPatConst : PatConst → Type 0
IsPatConst (Exactly n) = n < 2 ^ 32
IsPatConst (Operand k range) = (k < 10) × HasRange range

abbrev pub IsPatLeaf : PatLeaf → Type 0
IsPatLeaf (InPatReg r) = IsPatReg r
IsPatLeaf (AtSymbol k) = k < 10

-- numbers are words, digits are digits
pub record HasPatNumbers (t : PatTree) : Type 0 where
  pub consts : EachConst IsPatConst t
  pub leaves : EachLeaf IsPatLeaf t

-- a term within the limits
pub record IsPatTree (t : PatTree) : Type 0 where
  pub size : tree_size t ≤ 64
  pub depth : tree_depth t ≤ 16
  pub numbers : HasPatNumbers t

-- a transfer by itself
abbrev pub IsPatMove : PatMove → Type 0
IsPatMove (SetsTo r t) = IsPatReg r × (r ≢ register.Fixed Fp) × IsPatTree t
IsPatMove (Compares t u) = IsPatTree t × IsPatTree u
IsPatMove (Stores t u) = IsPatTree t × IsPatTree u
IsPatMove (Jumps k) = k < 10
IsPatMove (Branches r k) = k < 10
IsPatMove (BranchesOn t u r k) = IsPatTree t × IsPatTree u × (k < 10)
IsPatMove (Calls k) = k < 10
IsPatMove Returns = ⊤

-- the kinds in their order: sets, cc, store, control
abbrev pub kind_of : PatMove → ℕ
kind_of (SetsTo r t) = 0
kind_of (Compares t u) = 1
kind_of (Stores t u) = 2
kind_of (Jumps k) = 3
kind_of (Branches r k) = 3
kind_of (BranchesOn t u r k) = 3
kind_of (Calls k) = 3
kind_of Returns = 3

-- a transfer that sets the register
abbrev pub Sets : PatReg → PatMove → Type 0
Sets r (SetsTo q t) = q ≡ r
Sets r (Compares t u) = ⊥
Sets r (Stores t u) = ⊥
Sets r (Jumps k) = ⊥
Sets r (Branches s k) = ⊥
Sets r (BranchesOn t u s k) = ⊥
Sets r (Calls k) = ⊥
Sets r Returns = ⊥

-- of two transfers of one entry
abbrev pub GoesBefore : PatMove → PatMove → Type 0
GoesBefore m n = InOrder kind_of Sets m n

-- what an operand stands for: `%k` a register, `#k` a constant, `&k` a symbol, `@k` a label
pub data Sort : Type 0 where
  OfReg : Sort
  OfNum : Sort
  OfSym : Sort
  OfLabel : Sort

-- an operand at one of its places: its digit, what it stands for, and whether a range stands there
pub record Place : Type 0 where
  pub digit : ℕ
  pub sort : Sort
  pub ranged : Bool

abbrev pub place : ℕ → Sort → Bool → Place
place k s ranged = record { digit = k; sort = s; ranged = ranged }

abbrev pub has_range : Option Bounds → Bool
has_range None = false
has_range (Some r) = true

abbrev pub reg_places : PatReg → List Place
reg_places (register.Any k) = place k OfReg false ∷ []
reg_places (register.Fixed r) = []

abbrev pub const_places : PatConst → List Place
const_places (Exactly n) = []
const_places (Operand k range) = place k OfNum (has_range range) ∷ []

abbrev pub leaf_places : PatLeaf → List Place
leaf_places (InPatReg r) = reg_places r
leaf_places (AtSymbol k) = place k OfSym false ∷ []

-- the operands of a term, from left to right
abbrev pub tree_places : PatTree → List Place
tree_places (Const c) = const_places c
tree_places (Leaf l) = leaf_places l
tree_places (Read t) = tree_places t
tree_places (Unary o t) = tree_places t
tree_places (Binary o t u) = tree_places t ++ tree_places u

-- those of a transfer
abbrev pub move_places : PatMove → List Place
move_places (SetsTo r t) = reg_places r ++ tree_places t
move_places (Compares t u) = tree_places t ++ tree_places u
move_places (Stores t u) = tree_places t ++ tree_places u
move_places (Jumps k) = place k OfLabel false ∷ []
move_places (Branches r k) = place k OfLabel false ∷ []
move_places (BranchesOn t u r k) = tree_places t ++ tree_places u ++ place k OfLabel false ∷ []
move_places (Calls k) = place k OfSym false ∷ []
move_places Returns = []

abbrev pub places_of : List PatMove → List Place
places_of ms = flat_map move_places ms

-- what holds of a place p and a later place q: a digit stands for one thing, and has a range at its first place only
pub record AgreesWith (p q : Place) : Type 0 where
  pub one_sort : p.digit ≡ q.digit → p.sort ≡ q.sort
  pub range_first : p.digit ≡ q.digit → q.ranged ≡ false

-- an operand of a template is one of the pattern's
pub record IsAmong (ps : List Place) (k : ℕ) (s : Sort) : Type 0 where
  pub ranged : Bool
  pub among : Contains ps (place k s ranged)

abbrev pub IsPieceOf : List Place → Piece → Type 0
IsPieceOf ps (piece.Byte b) = (32 ≤ b) × (b ≤ 126)
IsPieceOf ps (piece.Reg k) = IsAmong ps k OfReg
IsPieceOf ps (piece.Num k) = IsAmong ps k OfNum
IsPieceOf ps (piece.Label k) = IsAmong ps k OfLabel
IsPieceOf ps (piece.Sym k) = IsAmong ps k OfSym

-- `clobber cc` doesn't stand beside a transfer that sets cc
abbrev pub MayClobber : Bool → List PatMove → Type 0
MayClobber true ms = All (λ m. kind_of m ≢ 1) ms
MayClobber false ms = ⊤

-- an entry of these transfers
pub record IsEntryOf (e : Entry) (ms : List PatMove) : Type 0 where
  pub some : 1 ≤ length ms
  pub few : length ms ≤ 4
  pub pairs : AllPairs GoesBefore ms
  pub each : All IsPatMove ms
  pub operands : AllPairs AgreesWith (places_of ms)
  pub clobber : MayClobber e.clobbers ms
  pub template : All (IsPieceOf (places_of ms)) e.template

abbrev pub IsEntry : Entry → Type 0
IsEntry e = IsEntryOf e (pat_moves_of e.pattern)
