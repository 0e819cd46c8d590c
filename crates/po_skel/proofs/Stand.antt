-- Each hole of a well-formed pair's shape has its value in the pair.
use Rattle.std.proofs.Common.{◌≡◌, ℕ, ◌+◌, ◌<◌, List, [], ◌∷◌, ◌++◌, length, refl, ap, arith}
use Rattle.std.specs.Prelude.{IsSome, All}
use Rattle.std.proofs.lemmas.List.{length-append}
use Rattle.std.proofs.lemmas.List.Elements.{All-head, All-tail}
use Rattle.po_word.specs.Exprs.{HasHoles}
use Rattle.po_term.specs.Tree.{Tree, Const, Leaf, Read, Unary, Binary, EachLeaf}
use Rattle.po_term.specs.Terms.{Place, InReg, AtSym}
use Rattle.po_term.specs.Moves.{GoTo, IfCc, IfTwo, CallOf, Return, SetTo, CcTo, StoreTo, Ends, PlainMove}
use Rattle.po_term.specs.Form.{IsPlace, WellFormedMove}
use Rattle.po_model.specs.declared.hole.PReg.{PReg}
use Rattle.po_model.specs.declared.hole.PReg.TheVariants.{Hole, Fixed}
use Rattle.po_model.specs.Pairs.{PlainPair, WellFormedPair}
use Rattle.po_model.specs.Holed.{InPReg, AtSymHole, HoleTree, HoleMove, label_hole, PlainValues}
use Rattle.po_model.specs.Shape.{meet_register, meet_tree, meet_move, meet_moves, nothing_met, pair_values, pair_shape}
use Rattle.po_model.specs.Shape.{constants, move_constants, moves_constants, hole_tree, hole_move, hole_moves}
use Rattle.po_model.specs.Put.{HasRegister, HasPlace, HasMoves}
use Rattle.po_subst.proofs.Mapped.{EachOfTree, EachOfMove, EachOf}
use Rattle.po_skel.specs.Values.{IsFilled}
use Rattle.po_skel.proofs.Meeting.{Longer, longer_self, moves_longer, after_register, after_first, after_move}
use Rattle.po_skel.proofs.Meeting.{before_label, next_of_register, next_of_tree, next_of_move}
use Rattle.po_skel.proofs.Known.{Stands, StandsAt, met_known, register_met, symbol_met, register_stands, symbol_stands}
use Rattle.po_skel.proofs.PutBack.{from_none}

-- each hole has a value, and no other register than a hole or one with a name of its own stands there
abbrev TreeStands : PlainValues → HoleTree → Type 0
TreeStands v t = EachOfTree (λ e. HasHoles e v.consts) (StandsAt v) t

abbrev MoveStands : PlainValues → HoleMove → Type 0
MoveStands v m = EachOfMove (λ e. HasHoles e v.consts) (StandsAt v) (Stands v) (λ k. k < length v.syms)
    (λ l. (l ≡ label_hole) × IsSome v.label) m

abbrev pub StandIn : PlainValues → List HoleMove → Type 0
StandIn v ms = EachOf (λ e. HasHoles e v.consts) (StandsAt v) (Stands v) (λ k. k < length v.syms)
    (λ l. (l ≡ label_hole) × IsSome v.label) ms

const_stands : (w v : PlainValues) (n c : ℕ) → n ≡ length w.consts
    → Longer (record w { consts = w.consts ++ c ∷ [] }) v → n < length v.consts
const_stands w v n c e h =
    let a = ap length h.more_consts in
    let b = length-append (w.consts ++ c ∷ []) h.consts in
    let d = length-append w.consts (c ∷ []) in
    omega arith

tree_stands : (w v : PlainValues) (n : ℕ) (t : Tree ℕ Place) → n ≡ length w.consts → EachLeaf IsPlace t
    → Longer (meet_tree w t) v → TreeStands v (hole_tree v n t)
tree_stands w v n (Const c) e f h = (const_stands w v n c e h, tt)
tree_stands w v n (Leaf (InReg r)) e f h = (tt, register_stands v r (met_known v r f (register_met w v r h)))
tree_stands w v n (Leaf (AtSym s)) e f h = (tt, symbol_stands v s (symbol_met w v s h))
tree_stands w v n (Read t) e f h = tree_stands w v n t e f h
tree_stands w v n (Unary o t) e f h = tree_stands w v n t e f h
tree_stands w v n (Binary o t u) e f h =
    let a = tree_stands w v n t e f.0 (after_first w v t u h) in
    let b = tree_stands (meet_tree w t) v (n + constants t) u (next_of_tree w n t e) f.1 h in
    ((a.0, b.0), (a.1, b.1))

two_stand : (w v : PlainValues) (n : ℕ) (t u : Tree ℕ Place) → n ≡ length w.consts → EachLeaf IsPlace t
    → EachLeaf IsPlace u → Longer (meet_tree (meet_tree w t) u) v
    → TreeStands v (hole_tree v n t) × TreeStands v (hole_tree v (n + constants t) u)
two_stand w v n t u e f g h = (
  tree_stands w v n t e f (after_first w v t u h),
  tree_stands (meet_tree w t) v (n + constants t) u (next_of_tree w n t e) g h,
)

move_stands : (w v : PlainValues) (n : ℕ) (m : PlainMove) → n ≡ length w.consts → WellFormedMove m
    → Longer (meet_move w m) v → MoveStands v (hole_move v n m)
move_stands w v n (SetTo r t) e f h = (
  register_stands v r (met_known v r f.0 (register_met w v r (after_register w v r t h))),
  tree_stands (meet_register w r) v n t (next_of_register w n r e) f.2.places h,
)
move_stands w v n (CcTo t u) e f h = two_stand w v n t u e f.0.places f.1.places h
move_stands w v n (StoreTo t u) e f h = two_stand w v n t u e f.0.places f.1.places h
move_stands w v n (Ends (GoTo l)) e f h = (refl, h.label refl)
move_stands w v n (Ends (IfCc r l)) e f h = (refl, h.label refl)
move_stands w v n (Ends (IfTwo t u r l)) e f h =
    let b = two_stand w v n t u e f.0.places f.1.places (before_label (meet_tree (meet_tree w t) u) v l h) in
    (b.0, b.1, (refl, h.label refl))
move_stands w v n (Ends (CallOf s k)) e f h = symbol_stands v s (symbol_met w v s h)
move_stands w v n (Ends Return) e f h = tt

moves_stand : (w v : PlainValues) (n : ℕ) (ms : List PlainMove) → n ≡ length w.consts → All WellFormedMove ms
    → Longer (meet_moves w ms) v → StandIn v (hole_moves v n ms)
moves_stand w v n [] e f h = tt
moves_stand w v n (m ∷ ms) e f h = (
  move_stands w v n m e (All-head WellFormedMove m ms f) (after_move w v m ms h),
  moves_stand (meet_move w m) v (n + move_constants m) ms (next_of_move w n m e) (All-tail WellFormedMove m ms f) h,
)

pub first_stand : (p : PlainPair) → WellFormedPair p → StandIn (pair_values p) (pair_shape p).a
first_stand p formed =
    moves_stand nothing_met (pair_values p) 0 p.a refl formed.first.each
    (moves_longer (meet_moves nothing_met p.a) p.b)

pub second_stand : (p : PlainPair) → WellFormedPair p → StandIn (pair_values p) (pair_shape p).b
second_stand p formed =
    moves_stand (meet_moves nothing_met p.a) (pair_values p) (moves_constants p.a) p.b (from_none p.a)
    formed.second.each (longer_self (pair_values p))

-- So each hole has its value

module _ (v : PlainValues) where
  has_register : (r : PReg) → Stands v r → HasRegister v r
  has_register (Hole k) h = h
  has_register (Fixed r) h = tt

  has_leaves : (t : HoleTree) → EachLeaf (StandsAt v) t → EachLeaf (HasPlace v) t
  has_leaves (Const e) h = tt
  has_leaves (Leaf (InPReg r)) h = has_register r h
  has_leaves (Leaf (AtSymHole k)) h = h
  has_leaves (Read t) h = has_leaves t h
  has_leaves (Unary o t) h = has_leaves t h
  has_leaves (Binary o t u) h = (has_leaves t h.0, has_leaves u h.1)

  pub has_moves : (ms : List HoleMove) → StandIn v ms → HasMoves v ms
  has_moves [] h = tt
  has_moves (SetTo r t ∷ ms) h = ((has_register r h.0.0, (h.0.1.0, has_leaves t h.0.1.1)), has_moves ms h.1)
  has_moves (CcTo t u ∷ ms) h = (((h.0.0.0, has_leaves t h.0.0.1), (h.0.1.0, has_leaves u h.0.1.1)), has_moves ms h.1)
  has_moves (StoreTo t u ∷ ms) h =
      (((h.0.0.0, has_leaves t h.0.0.1), (h.0.1.0, has_leaves u h.0.1.1)), has_moves ms h.1)
  has_moves (Ends (GoTo l) ∷ ms) h = (h.0.1, has_moves ms h.1)
  has_moves (Ends (IfCc r l) ∷ ms) h = (h.0.1, has_moves ms h.1)
  has_moves (Ends (IfTwo t u r l) ∷ ms) h =
      (((h.0.0.0, has_leaves t h.0.0.1), (h.0.1.0, has_leaves u h.0.1.1), h.0.2.1), has_moves ms h.1)
  has_moves (Ends (CallOf k n) ∷ ms) h = (h.0, has_moves ms h.1)
  has_moves (Ends Return ∷ ms) h = (tt, has_moves ms h.1)

pub filled : (p : PlainPair) → WellFormedPair p → IsFilled p
filled p formed =
    record {
      first = has_moves (pair_values p) (pair_shape p).a (first_stand p formed);
      second = has_moves (pair_values p) (pair_shape p).b (second_stand p formed);
    }
