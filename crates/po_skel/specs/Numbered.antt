-- Holes in the place of what a walk meets, each numbered at its place in the walk, by what was met up to there.
use Rattle.std.specs.Prelude.{ℕ, List, [], ◌∷◌, length}
use Rattle.po_word.specs.Exprs.{Expr, AtHole}
use Rattle.po_term.specs.declared.term.Sym.{Sym}
use Rattle.po_term.specs.Tree.{Tree, Const, Leaf, Read, Unary, Binary}
use Rattle.po_term.specs.Terms.{Place}
use Rattle.po_term.specs.Moves.{Ending, GoTo, IfCc, IfTwo, CallOf, Return, SetTo, CcTo, StoreTo, Ends, PlainMove}
use Rattle.po_model.specs.Holed.{HolePlace, HoleTree, HoleMove, label_hole, PlainValues}
use Rattle.po_model.specs.Shape.{meet_register, meet_symbol, meet_place, meet_tree, meet_move}
use Rattle.po_model.specs.Shape.{hole_register, hole_symbol, hole_place}

-- what is met before stands in v
abbrev pub numbered_tree : PlainValues → Tree ℕ Place → HoleTree
numbered_tree v (Const c) = Const (AtHole (length v.consts))
numbered_tree v (Leaf l) = Leaf (hole_place (meet_place v l) l)
numbered_tree v (Read t) = Read (numbered_tree v t)
numbered_tree v (Unary o t) = Unary o (numbered_tree v t)
numbered_tree v (Binary o t u) = Binary o (numbered_tree v t) (numbered_tree (meet_tree v t) u)

abbrev pub numbered_ending : PlainValues → Ending ℕ Place Sym → Ending Expr HolePlace ℕ
numbered_ending v (GoTo l) = GoTo label_hole
numbered_ending v (IfCc r l) = IfCc r label_hole
numbered_ending v (IfTwo t u r l) = IfTwo (numbered_tree v t) (numbered_tree (meet_tree v t) u) r label_hole
numbered_ending v (CallOf s k) = CallOf (hole_symbol (meet_symbol v s) s) k
numbered_ending v Return = Return

abbrev pub numbered_move : PlainValues → PlainMove → HoleMove
numbered_move v (SetTo r t) = SetTo (hole_register (meet_register v r) r) (numbered_tree (meet_register v r) t)
numbered_move v (CcTo t u) = CcTo (numbered_tree v t) (numbered_tree (meet_tree v t) u)
numbered_move v (StoreTo t u) = StoreTo (numbered_tree v t) (numbered_tree (meet_tree v t) u)
numbered_move v (Ends e) = Ends (numbered_ending v e)

abbrev pub numbered_moves : PlainValues → List PlainMove → List HoleMove
numbered_moves v [] = []
numbered_moves v (m ∷ ms) = numbered_move v m ∷ numbered_moves (meet_move v m) ms
