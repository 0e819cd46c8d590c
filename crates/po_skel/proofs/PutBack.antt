-- A pair's values put into its shape give the pair.
use Rattle.std.proofs.Common.{◌≡◌, ℕ, ◌+◌, List, [], ◌∷◌, ◌++◌, map, length, get_or}
use Rattle.std.proofs.Common.{refl, sym, ◌∙◌, ap, ap₂, arith}
use Rattle.std.specs.Prelude.{Some}
use Rattle.po_term.specs.declared.term.Label.{Label}
use Rattle.po_term.specs.Tree.{Tree, Const, Leaf, Read, Unary, Binary}
use Rattle.po_term.specs.Terms.{Place, InReg, AtSym}
use Rattle.po_term.specs.Moves.{GoTo, IfCc, IfTwo, CallOf, Return, SetTo, CcTo, StoreTo, Ends, PlainMove}
use Rattle.po_model.specs.Pairs.{PlainPair}
use Rattle.po_model.specs.Holed.{PlainValues}
use Rattle.po_model.specs.Shape.{meet_register, meet_tree, meet_move, meet_moves, nothing_met, pair_values, pair_shape}
use Rattle.po_model.specs.Shape.{constants, move_constants, moves_constants, hole_tree, hole_move, hole_moves}
use Rattle.po_model.specs.Put.{put_tree, put_move, put_label}
use Rattle.po_skel.specs.Labels.{GoesTo, AllGoTo, HasOneLabel}
use Rattle.po_skel.proofs.Meeting.{Longer, longer_self, moves_longer, after_register, after_first, after_move}
use Rattle.po_skel.proofs.Meeting.{before_label, next_of_register, next_of_tree, next_of_move, moves_consts}
use Rattle.po_skel.proofs.Known.{register_met, symbol_met, register_back, symbol_back}

const_at : (xs ys : List ℕ) (c n : ℕ) → n ≡ length xs → get_or ((xs ++ c ∷ []) ++ ys) n 0 ≡ c
const_at [] ys c n e = rw e refl
const_at (x ∷ xs) ys c n e = rw e (const_at xs ys c (length xs) refl)

tree_back : (w v : PlainValues) (n : ℕ) (t : Tree ℕ Place) → n ≡ length w.consts → Longer (meet_tree w t) v
    → put_tree v (hole_tree v n t) ≡ t
tree_back w v n (Const c) e h =
    ap (λ k. Const k) (ap (λ xs. get_or xs n 0) h.more_consts ∙ const_at w.consts h.consts c n e)
tree_back w v n (Leaf (InReg r)) e h = ap (λ q. Leaf (InReg q)) (register_back v r (register_met w v r h))
tree_back w v n (Leaf (AtSym s)) e h = ap (λ q. Leaf (AtSym q)) (symbol_back v s (symbol_met w v s h))
tree_back w v n (Read t) e h = ap (λ x. Read x) (tree_back w v n t e h)
tree_back w v n (Unary o t) e h = ap (λ x. Unary o x) (tree_back w v n t e h)
tree_back w v n (Binary o t u) e h =
    ap₂ (λ x y. Binary o x y) (tree_back w v n t e (after_first w v t u h))
    (tree_back (meet_tree w t) v (n + constants t) u (next_of_tree w n t e) h)

first_back : (w v : PlainValues) (n : ℕ) (t u : Tree ℕ Place) → n ≡ length w.consts
    → Longer (meet_tree (meet_tree w t) u) v → put_tree v (hole_tree v n t) ≡ t
first_back w v n t u e h = tree_back w v n t e (after_first w v t u h)

second_back : (w v : PlainValues) (n : ℕ) (t u : Tree ℕ Place) → n ≡ length w.consts
    → Longer (meet_tree (meet_tree w t) u) v → put_tree v (hole_tree v (n + constants t) u) ≡ u
second_back w v n t u e h = tree_back (meet_tree w t) v (n + constants t) u (next_of_tree w n t e) h

label_back : (v : PlainValues) (l m : Label) → v.label ≡ Some l → put_label v m ≡ l
label_back v l m e = rw e refl

move_back : (w v : PlainValues) (n : ℕ) (m : PlainMove) → n ≡ length w.consts → GoesTo v m → Longer (meet_move w m) v
    → put_move v (hole_move v n m) ≡ m
move_back w v n (SetTo r t) e g h =
    ap₂ (λ x y. SetTo x y) (register_back v r (register_met w v r (after_register w v r t h)))
    (tree_back (meet_register w r) v n t (next_of_register w n r e) h)
move_back w v n (CcTo t u) e g h = ap₂ (λ x y. CcTo x y) (first_back w v n t u e h) (second_back w v n t u e h)
move_back w v n (StoreTo t u) e g h =
    ap₂ (λ x y. StoreTo x y) (first_back w v n t u e h) (second_back w v n t u e h)
move_back w v n (Ends (GoTo l)) e g h = ap (λ x. Ends (GoTo x)) (label_back v l _ g)
move_back w v n (Ends (IfCc r l)) e g h = ap (λ x. Ends (IfCc r x)) (label_back v l _ g)
move_back w v n (Ends (IfTwo t u r l)) e g h =
    let k = before_label (meet_tree (meet_tree w t) u) v l h in
    ap₂ (λ (xy : Tree ℕ Place × Tree ℕ Place) z. Ends (IfTwo xy.0 xy.1 r z))
    (ap₂ (λ x y. (x, y)) (first_back w v n t u e k) (second_back w v n t u e k)) (label_back v l _ g)
move_back w v n (Ends (CallOf s k)) e g h = ap (λ x. Ends (CallOf x k)) (symbol_back v s (symbol_met w v s h))
move_back w v n (Ends Return) e g h = refl

moves_back : (w v : PlainValues) (n : ℕ) (ms : List PlainMove) → n ≡ length w.consts → AllGoTo v ms
    → Longer (meet_moves w ms) v → map (put_move v) (hole_moves v n ms) ≡ ms
moves_back w v n [] e g h = refl
moves_back w v n (m ∷ ms) e g h =
    ap₂ (λ x y. x ∷ y) (move_back w v n m e g.0 (after_move w v m ms h))
    (moves_back (meet_move w m) v (n + move_constants m) ms (next_of_move w n m e) g.1 h)

-- the constants of a list stand from 0 on
pub from_none : (ms : List PlainMove) → moves_constants ms ≡ length (meet_moves nothing_met ms).consts
from_none ms = let e = moves_consts nothing_met ms in omega arith

-- a pair's values put into its shape give the pair: the first instruction, and the second, each where the labels that
-- it goes to are the pair's

pub first_put : (p : PlainPair) → AllGoTo (pair_values p) p.a → map (put_move (pair_values p)) (pair_shape p).a ≡ p.a
first_put p g = moves_back nothing_met (pair_values p) 0 p.a refl g (moves_longer (meet_moves nothing_met p.a) p.b)

pub second_put : (p : PlainPair) → AllGoTo (pair_values p) p.b
    → map (put_move (pair_values p)) (pair_shape p).b ≡ p.b
second_put p g =
    moves_back (meet_moves nothing_met p.a) (pair_values p) (moves_constants p.a) p.b (from_none p.a) g
    (longer_self (pair_values p))

pub same_first : (p q : PlainPair) → HasOneLabel p → HasOneLabel q → pair_shape p ≡ pair_shape q
    → pair_values p ≡ pair_values q → p.a ≡ q.a
same_first p q g h s v =
    sym (first_put p g.0) ∙ (ap₂ (λ w x. map (put_move w) x) v (ap (λ x. x.a) s) ∙ first_put q h.0)

pub same_second : (p q : PlainPair) → HasOneLabel p → HasOneLabel q → pair_shape p ≡ pair_shape q
    → pair_values p ≡ pair_values q → p.b ≡ q.b
same_second p q g h s v =
    sym (second_put p g.1) ∙ (ap₂ (λ w x. map (put_move w) x) v (ap (λ x. x.b) s) ∙ second_put q h.1)
