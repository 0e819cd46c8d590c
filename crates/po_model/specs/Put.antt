-- Values put into holes.
use Rattle.std.specs.Prelude.{ℕ, ◌<◌, List, [], ◌∷◌, map, length, slice_index_or, Option, Some, None, IsSome}
use Rattle.po_word.specs.Exprs.{Expr, HasHoles, expr_value}
use Rattle.po_term.specs.declared.term.Reg.{Reg as Register}
use Rattle.po_term.specs.declared.term.Reg.TheVariants.{Fp}
use Rattle.po_term.specs.declared.term.Sym.{Sym}
use Rattle.po_term.specs.declared.term.Label.{Label}
use Rattle.po_term.specs.Tree.{Tree, tree_map, EachConst, EachLeaf}
use Rattle.po_term.specs.Terms.{Place, InReg, AtSym}
use Rattle.po_term.specs.Moves.{Ending, GoTo, IfCc, IfTwo, CallOf, Return, Move, SetTo, CcTo, StoreTo, Ends, PlainMove}
use Rattle.po_term.specs.MoveMap.{move_map}
use Rattle.po_model.specs.declared.hole.PReg.{PReg}
use Rattle.po_model.specs.declared.hole.PReg.TheVariants.{Hole, Fixed}
use Rattle.po_model.specs.Combined.{Combination, Kept, Gone, AsOne}
use Rattle.po_model.specs.Holed.{HolePlace, InPReg, AtSymHole, HoleTree, HoleMove, HoleCombination, PlainValues}

module _ {J K L M R Q S T : Type 0} (onto : Move J L R S → Move K M Q T) where
  -- what becomes of a pair, with each transfer replaced
  abbrev pub combination_map : Combination J L R S → Combination K M Q T
  combination_map Kept = Kept
  combination_map Gone = Gone
  combination_map (AsOne ms) = AsOne (map onto ms)

-- the label, where there is one
abbrev pub label_or : Option Label → Label → Label
label_or None l = l
label_or (Some m) l = m

module _ (v : PlainValues) where
  abbrev pub put_register : PReg → Register
  put_register (Hole k) = slice_index_or v.regs k Fp
  put_register (Fixed r) = r

  abbrev pub put_symbol : ℕ → Sym
  put_symbol k = slice_index_or v.syms k (record { 0 = 0 })

  abbrev pub put_place : HolePlace → Place
  put_place (InPReg r) = InReg (put_register r)
  put_place (AtSymHole k) = AtSym (put_symbol k)

  abbrev pub put_label : Label → Label
  put_label l = label_or v.label l

  -- the term, the transfer, with its expressions' words
  abbrev pub put_tree : HoleTree → Tree ℕ Place
  put_tree t = tree_map (expr_value v.consts) put_place t

  abbrev pub put_move : HoleMove → PlainMove
  put_move m = move_map (expr_value v.consts) put_place put_register put_symbol put_label m

  -- what becomes of a pair whose values these are
  abbrev pub put : HoleCombination → Combination ℕ Place Register Sym
  put c = combination_map put_move c

  -- each hole has its value

  abbrev pub HasRegister : PReg → Type 0
  HasRegister (Hole k) = k < length v.regs
  HasRegister (Fixed r) = Unit {0}

  abbrev pub HasSymbol : ℕ → Type 0
  HasSymbol k = k < length v.syms

  abbrev pub HasPlace : HolePlace → Type 0
  HasPlace (InPReg r) = HasRegister r
  HasPlace (AtSymHole k) = HasSymbol k

  abbrev pub HasTree : HoleTree → Type 0
  HasTree t = EachConst (λ e. HasHoles e v.consts) t × EachLeaf HasPlace t

  abbrev pub HasEnding : Ending Expr HolePlace ℕ → Type 0
  HasEnding (GoTo l) = IsSome v.label
  HasEnding (IfCc r l) = IsSome v.label
  HasEnding (IfTwo t u r l) = HasTree t × HasTree u × IsSome v.label
  HasEnding (CallOf k n) = HasSymbol k
  HasEnding Return = Unit {0}

  abbrev pub HasMove : HoleMove → Type 0
  HasMove (SetTo r t) = HasRegister r × HasTree t
  HasMove (CcTo t u) = HasTree t × HasTree u
  HasMove (StoreTo t u) = HasTree t × HasTree u
  HasMove (Ends e) = HasEnding e

  abbrev pub HasMoves : List HoleMove → Type 0
  HasMoves [] = Unit {0}
  HasMoves (m ∷ ms) = HasMove m × HasMoves ms

  abbrev pub HasValues : HoleCombination → Type 0
  HasValues Kept = Unit {0}
  HasValues Gone = Unit {0}
  HasValues (AsOne ms) = HasMoves ms
