-- The shape of a pair, and what stands at its holes.
--
-- The walk of a pair goes through the first instruction and then the second, transfer by transfer: the register that
-- is set and then its term, an address and then its value, the left and then the right of a comparison. In that order
-- different virtual registers get the holes %0, %1, .., different symbols &0, &1, .., and each constant one of its
-- own, #0, #1, .., equal constants too. The label is @0. All else stays: other registers, operators, relations,
-- numbers of arguments.
use Rattle.std.specs.Prelude.{ℕ, Bool, ◌+◌, if◌then◌else◌, List, [], ◌∷◌, ◌++◌, map, filter, Some, None}
use Rattle.std.specs.List.{list_any, position_or_len}
use Rattle.po_word.specs.Exprs.{Expr, AtHole}
use Rattle.po_term.specs.declared.term.Reg.{Reg as Register}
use Rattle.po_term.specs.declared.term.Reg.TheVariants.{Virt, Rv, Arg}
use Rattle.po_term.specs.declared.term.Sym.{Sym}
use Rattle.po_term.specs.Tree.{Tree, Const, Leaf, Read, Unary, Binary}
use Rattle.po_term.specs.Terms.{Place, InReg, AtSym}
use Rattle.po_term.specs.Moves.{Ending, GoTo, IfCc, IfTwo, CallOf, Return, SetTo, CcTo, StoreTo, Ends, PlainMove}
use Rattle.po_term.specs.Simplified.{reg_eq}
use Rattle.po_model.specs.declared.hole.PReg.{PReg}
use Rattle.po_model.specs.declared.hole.PReg.TheVariants.{Hole, Fixed}
use Rattle.po_model.specs.Pairs.{PlainPair, is_live_after}
use Rattle.po_model.specs.Holed.{HolePlace, InPReg, AtSymHole, HoleTree, HoleMove, label_hole, PlainValues, PlainShape}
use Rattle.po_model.specs.Parts.{sym_eq}

-- what the walk has met so far, with one thing more

-- a virtual register that wasn't met
abbrev pub meet_register : PlainValues → Register → PlainValues
meet_register v (Virt n) = if list_any (reg_eq (Virt n)) v.regs then v else record v { regs = v.regs ++ Virt n ∷ [] }
meet_register v r = v

-- a symbol that wasn't met
abbrev pub meet_symbol : PlainValues → Sym → PlainValues
meet_symbol v s = if list_any (sym_eq s) v.syms then v else record v { syms = v.syms ++ s ∷ [] }

abbrev pub meet_place : PlainValues → Place → PlainValues
meet_place v (InReg r) = meet_register v r
meet_place v (AtSym s) = meet_symbol v s

abbrev pub meet_tree : PlainValues → Tree ℕ Place → PlainValues
meet_tree v (Const c) = record v { consts = v.consts ++ c ∷ [] }
meet_tree v (Leaf l) = meet_place v l
meet_tree v (Read t) = meet_tree v t
meet_tree v (Unary o t) = meet_tree v t
meet_tree v (Binary o t u) = meet_tree (meet_tree v t) u

-- the label that is met last stays: that of the second instruction, where it has one
abbrev pub meet_ending : PlainValues → Ending ℕ Place Sym → PlainValues
meet_ending v (GoTo l) = record v { label = Some l }
meet_ending v (IfCc r l) = record v { label = Some l }
meet_ending v (IfTwo t u r l) = let w = meet_tree (meet_tree v t) u in record w { label = Some l }
meet_ending v (CallOf s n) = meet_symbol v s
meet_ending v Return = v

abbrev pub meet_move : PlainValues → PlainMove → PlainValues
meet_move v (SetTo r t) = meet_tree (meet_register v r) t
meet_move v (CcTo t u) = meet_tree (meet_tree v t) u
meet_move v (StoreTo t u) = meet_tree (meet_tree v t) u
meet_move v (Ends e) = meet_ending v e

abbrev pub meet_moves : PlainValues → List PlainMove → PlainValues
meet_moves v [] = v
meet_moves v (m ∷ ms) = meet_moves (meet_move v m) ms

abbrev pub nothing_met : PlainValues
nothing_met = record { regs = []; syms = []; label = None; consts = [] }

-- what stands at the holes of a pair's shape
abbrev pub pair_values : PlainPair → PlainValues
pair_values p = meet_moves (meet_moves nothing_met p.a) p.b

-- how many constants there are
abbrev pub constants : Tree ℕ Place → ℕ
constants (Const c) = 1
constants (Leaf l) = 0
constants (Read t) = constants t
constants (Unary o t) = constants t
constants (Binary o t u) = constants t + constants u

abbrev pub move_constants : PlainMove → ℕ
move_constants (SetTo r t) = constants t
move_constants (CcTo t u) = constants t + constants u
move_constants (StoreTo t u) = constants t + constants u
move_constants (Ends (IfTwo t u r l)) = constants t + constants u
move_constants (Ends e) = 0

abbrev pub moves_constants : List PlainMove → ℕ
moves_constants [] = 0
moves_constants (m ∷ ms) = move_constants m + moves_constants ms

module _ (v : PlainValues) where
  -- the hole of a virtual register; another register stays
  abbrev pub hole_register : Register → PReg
  hole_register (Virt n) = Hole (position_or_len (reg_eq (Virt n)) v.regs)
  hole_register r = Fixed r

  abbrev pub hole_symbol : Sym → ℕ
  hole_symbol s = position_or_len (sym_eq s) v.syms

  abbrev pub hole_place : Place → HolePlace
  hole_place (InReg r) = InPReg (hole_register r)
  hole_place (AtSym s) = AtSymHole (hole_symbol s)

  -- the term with holes, its constants numbered from n on
  abbrev pub hole_tree : ℕ → Tree ℕ Place → HoleTree
  hole_tree n (Const c) = Const (AtHole n)
  hole_tree n (Leaf l) = Leaf (hole_place l)
  hole_tree n (Read t) = Read (hole_tree n t)
  hole_tree n (Unary o t) = Unary o (hole_tree n t)
  hole_tree n (Binary o t u) = Binary o (hole_tree n t) (hole_tree (n + constants t) u)

  abbrev pub hole_ending : ℕ → Ending ℕ Place Sym → Ending Expr HolePlace ℕ
  hole_ending n (GoTo l) = GoTo label_hole
  hole_ending n (IfCc r l) = IfCc r label_hole
  hole_ending n (IfTwo t u r l) = IfTwo (hole_tree n t) (hole_tree (n + constants t) u) r label_hole
  hole_ending n (CallOf s k) = CallOf (hole_symbol s) k
  hole_ending n Return = Return

  abbrev pub hole_move : ℕ → PlainMove → HoleMove
  hole_move n (SetTo r t) = SetTo (hole_register r) (hole_tree n t)
  hole_move n (CcTo t u) = CcTo (hole_tree n t) (hole_tree (n + constants t) u)
  hole_move n (StoreTo t u) = StoreTo (hole_tree n t) (hole_tree (n + constants t) u)
  hole_move n (Ends e) = Ends (hole_ending n e)

  abbrev pub hole_moves : ℕ → List PlainMove → List HoleMove
  hole_moves n [] = []
  hole_moves n (m ∷ ms) = hole_move n m ∷ hole_moves (n + move_constants m) ms

-- the holes of those of these registers that are live after a pair
abbrev pub live_holes : PlainValues → (Register → Bool) → List Register → List PReg
live_holes v live rs = map (hole_register v) (filter live rs)

-- the registers other than virtual ones that a pair may set: those of results and arguments
abbrev pub settable : List Register
settable = Rv ∷ Arg 0 ∷ Arg 1 ∷ Arg 2 ∷ Arg 3 ∷ []

-- the shape, where v stands at its holes
abbrev pub shape_with : PlainValues → PlainPair → PlainShape
shape_with v p = record {
  a = hole_moves v 0 p.a;
  b = hole_moves v (moves_constants p.a) p.b;
  live = live_holes v (is_live_after p) v.regs ++ live_holes v (is_live_after p) settable;
  cc = p.cc;
}

abbrev pub pair_shape : PlainPair → PlainShape
pair_shape p = shape_with (pair_values p) p
