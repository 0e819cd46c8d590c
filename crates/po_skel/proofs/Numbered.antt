-- What is met later doesn't change the number of a hole: a pair with its holes numbered in the walk is its shape.
use Rattle.std.proofs.Common.{◌≡◌, ℕ, suc, ◌+◌, ◌<◌, ◌≤◌, Bool, true, false, List, [], ◌∷◌, ◌++◌, length}
use Rattle.std.proofs.Common.{refl, sym, ◌∙◌, ap, ap₂, subst, get_or, drop, drop-cons, arith}
use Rattle.std.specs.Prelude.{◌||◌, not, cond, Some}
use Rattle.std.specs.List.{list_any, position_or_len}
use Rattle.std.proofs.lemmas.List.{length-append}
use Rattle.std.proofs.lemmas.List.Sums.{prefix_len-le-length}
use Rattle.po_term.specs.declared.term.Reg.{Reg as Register}
use Rattle.po_term.specs.declared.term.Reg.TheVariants.{Virt, Fp, Rv, Arg}
use Rattle.po_term.specs.declared.term.Sym.{Sym}
use Rattle.po_term.specs.declared.term.Label.{Label}
use Rattle.po_term.specs.declared.transfer.Transfer.{Transfer}
use Rattle.po_word.specs.Exprs.{AtHole}
use Rattle.po_term.specs.Tree.{Tree, Const, Leaf, Read, Unary, Binary}
use Rattle.po_term.specs.Terms.{Place, InReg, AtSym}
use Rattle.po_term.specs.Moves.{GoTo, IfCc, IfTwo, CallOf, Return, SetTo, CcTo, StoreTo, Ends, PlainMove}
use Rattle.po_term.specs.Moves.{move_of, moves_of}
use Rattle.po_term.specs.Simplified.{reg_eq}
use Rattle.po_model.specs.declared.hole.PReg.{PReg}
use Rattle.po_model.specs.declared.hole.PReg.TheVariants.{Hole}
use Rattle.po_model.specs.Parts.{sym_eq}
use Rattle.po_model.specs.Pairs.{PlainPair, is_live_after}
use Rattle.po_model.specs.Holed.{InPReg, AtSymHole, HoleMove, label_hole, PlainValues, PlainShape}
use Rattle.po_model.specs.Shape.{meet_register, meet_symbol, meet_tree, meet_move, meet_moves, nothing_met}
use Rattle.po_model.specs.Shape.{constants, move_constants, moves_constants, hole_register, hole_symbol}
use Rattle.po_model.specs.Shape.{hole_tree, hole_move, hole_moves, pair_values, pair_shape, live_holes, settable}
use Rattle.po_skel.specs.Few.{HasFew}
use Rattle.po_skel.specs.Numbered.{numbered_tree, numbered_move, numbered_moves}
use Rattle.po_skel.proofs.Meeting.{Longer, longer_self, tree_longer, moves_longer}
use Rattle.po_skel.proofs.Meeting.{after_register, after_first, after_move, before_label}
use Rattle.po_skel.proofs.Meeting.{next_of_register, next_of_tree, next_of_move}
use Rattle.po_skel.proofs.Known.{register_met, symbol_met}
use Rattle.po_skel.proofs.PutBack.{from_none}

-- Numbers stay

place_stays : {X : Type 0} (p : X → Bool) (xs ys : List X) → list_any p xs ≡ true
    → position_or_len p xs ≡ position_or_len p (xs ++ ys)
place_stays p [] ys e = cc
place_stays p (x ∷ xs) ys e = go (p x) (place_stays p xs ys) e
  where
    go : (b : Bool) → (list_any p xs ≡ true → position_or_len p xs ≡ position_or_len p (xs ++ ys))
        → (b || list_any p xs) ≡ true
        → cond (not b) (1 + position_or_len p xs) 0 ≡ cond (not b) (1 + position_or_len p (xs ++ ys)) 0
    go true ih h = refl
    go false ih h = ap (λ k. 1 + k) (ih h)

register_stays : (v w : PlainValues) (r : Register) → Longer (meet_register v r) w
    → hole_register (meet_register v r) r ≡ hole_register w r
register_stays v w (Virt n) h =
    let met = register_met v (meet_register v (Virt n)) (Virt n) (longer_self (meet_register v (Virt n))) in
    ap (λ k. Hole k) (place_stays (reg_eq (Virt n)) (meet_register v (Virt n)).regs h.regs met
    ∙ ap (λ rs. position_or_len (reg_eq (Virt n)) rs) (sym h.more_regs))
register_stays v w Fp h = refl
register_stays v w Rv h = refl
register_stays v w (Arg n) h = refl

symbol_stays : (v w : PlainValues) (s : Sym) → Longer (meet_symbol v s) w
    → hole_symbol (meet_symbol v s) s ≡ hole_symbol w s
symbol_stays v w s h =
    let met = symbol_met v (meet_symbol v s) s (longer_self (meet_symbol v s)) in
    place_stays (sym_eq s) (meet_symbol v s).syms h.syms met
    ∙ ap (λ ss. position_or_len (sym_eq s) ss) (sym h.more_syms)

tree_stays : (v w : PlainValues) (n : ℕ) (t : Tree ℕ Place) → n ≡ length v.consts → Longer (meet_tree v t) w
    → numbered_tree v t ≡ hole_tree w n t
tree_stays v w n (Const c) e h = ap (λ k. Const (AtHole k)) (sym e)
tree_stays v w n (Leaf (InReg r)) e h = ap (λ q. Leaf (InPReg q)) (register_stays v w r h)
tree_stays v w n (Leaf (AtSym s)) e h = ap (λ k. Leaf (AtSymHole k)) (symbol_stays v w s h)
tree_stays v w n (Read t) e h = ap (λ x. Read x) (tree_stays v w n t e h)
tree_stays v w n (Unary o t) e h = ap (λ x. Unary o x) (tree_stays v w n t e h)
tree_stays v w n (Binary o t u) e h =
    ap₂ (λ x y. Binary o x y) (tree_stays v w n t e (after_first v w t u h))
    (tree_stays (meet_tree v t) w (n + constants t) u (next_of_tree v n t e) h)

first_stays : (v w : PlainValues) (n : ℕ) (t u : Tree ℕ Place) → n ≡ length v.consts
    → Longer (meet_tree (meet_tree v t) u) w → numbered_tree v t ≡ hole_tree w n t
first_stays v w n t u e h = tree_stays v w n t e (after_first v w t u h)

second_stays : (v w : PlainValues) (n : ℕ) (t u : Tree ℕ Place) → n ≡ length v.consts
    → Longer (meet_tree (meet_tree v t) u) w → numbered_tree (meet_tree v t) u ≡ hole_tree w (n + constants t) u
second_stays v w n t u e h = tree_stays (meet_tree v t) w (n + constants t) u (next_of_tree v n t e) h

move_stays : (v w : PlainValues) (n : ℕ) (m : PlainMove) → n ≡ length v.consts → Longer (meet_move v m) w
    → numbered_move v m ≡ hole_move w n m
move_stays v w n (SetTo r t) e h =
    ap₂ (λ x y. SetTo x y) (register_stays v w r (after_register v w r t h))
    (tree_stays (meet_register v r) w n t (next_of_register v n r e) h)
move_stays v w n (CcTo t u) e h = ap₂ (λ x y. CcTo x y) (first_stays v w n t u e h) (second_stays v w n t u e h)
move_stays v w n (StoreTo t u) e h =
    ap₂ (λ x y. StoreTo x y) (first_stays v w n t u e h) (second_stays v w n t u e h)
move_stays v w n (Ends (GoTo l)) e h = refl
move_stays v w n (Ends (IfCc r l)) e h = refl
move_stays v w n (Ends (IfTwo t u r l)) e h =
    let k = before_label (meet_tree (meet_tree v t) u) w l h in
    ap₂ (λ x y. Ends (IfTwo x y r label_hole)) (first_stays v w n t u e k) (second_stays v w n t u e k)
move_stays v w n (Ends (CallOf s k)) e h = ap (λ x. Ends (CallOf x k)) (symbol_stays v w s h)
move_stays v w n (Ends Return) e h = refl

moves_stay : (v w : PlainValues) (n : ℕ) (ms : List PlainMove) → n ≡ length v.consts → Longer (meet_moves v ms) w
    → numbered_moves v ms ≡ hole_moves w n ms
moves_stay v w n [] e h = refl
moves_stay v w n (m ∷ ms) e h =
    ap₂ (λ x y. x ∷ y) (move_stays v w n m e (after_move v w m ms h))
    (moves_stay (meet_move v m) w (n + move_constants m) ms (next_of_move v n m e) h)

-- the instructions of a pair, with their holes numbered in one walk, are those of its shape

pub first_shape : (p : PlainPair) → numbered_moves nothing_met p.a ≡ (pair_shape p).a
first_shape p = moves_stay nothing_met (pair_values p) 0 p.a refl (moves_longer (meet_moves nothing_met p.a) p.b)

pub second_shape : (p : PlainPair) → numbered_moves (meet_moves nothing_met p.a) p.b ≡ (pair_shape p).b
second_shape p =
    moves_stay (meet_moves nothing_met p.a) (pair_values p) (moves_constants p.a) p.b (from_none p.a)
    (longer_self (pair_values p))

abbrev shape_at : List HoleMove → List HoleMove → List PReg → Bool → PlainShape
shape_at a b live cc = record { a = a; b = b; live = live; cc = cc }

-- the holes of what is live after a pair, where v was met
abbrev live_with : PlainValues → PlainPair → List PReg
live_with v p = live_holes v (is_live_after p) v.regs ++ live_holes v (is_live_after p) settable

-- such instructions, with what is live, are the pair's shape
pub walked_shape : (p : PlainPair) (s : PlainShape) (v : PlainValues) → v ≡ pair_values p
    → s.a ≡ numbered_moves nothing_met p.a → s.b ≡ numbered_moves (meet_moves nothing_met p.a) p.b
    → s.live ≡ live_with v p → s.cc ≡ p.cc → s ≡ pair_shape p
walked_shape p s v met first second live same =
    ap₂ (λ x y. shape_at x y s.live s.cc) (first ∙ first_shape p) (second ∙ second_shape p)
    ∙ ap₂ (λ x y. shape_at (pair_shape p).a (pair_shape p).b x y) (live ∙ ap (λ w. live_with w p) met) same

-- and the pair's shape is of such instructions, and such live registers
pub shape_walked : (p : PlainPair) (s : PlainShape) → pair_shape p ≡ s
    → (s.a ≡ numbered_moves nothing_met p.a) × (s.b ≡ numbered_moves (meet_moves nothing_met p.a) p.b)
shape_walked p s same = (
  sym (ap (λ (x : PlainShape). x.a) same) ∙ sym (first_shape p),
  sym (ap (λ (x : PlainShape). x.b) same) ∙ sym (second_shape p),
)

pub live_walked : (p : PlainPair) (s : PlainShape) (v : PlainValues) → v ≡ pair_values p → pair_shape p ≡ s
    → (s.live ≡ live_with v p) × (s.cc ≡ p.cc)
live_walked p s v met same = (
  sym (ap (λ (x : PlainShape). x.live) same) ∙ sym (ap (λ w. live_with w p) met),
  sym (ap (λ (x : PlainShape). x.cc) same),
)

-- Few at the end of a walk are few at each place on it

pub few_before : (v w : PlainValues) → Longer v w → HasFew w → HasFew v
few_before v w h f =
    let registers = f.registers in
    let symbols = f.symbols in
    let constants = f.constants in
    let more_registers = ap length h.more_regs ∙ length-append v.regs h.regs in
    let more_symbols = ap length h.more_syms ∙ length-append v.syms h.syms in
    let more_constants = ap length h.more_consts ∙ length-append v.consts h.consts in
    record { registers = omega arith; symbols = omega arith; constants = omega arith }

pub few_register : (v : PlainValues) (r : Register) (t : Tree ℕ Place) → HasFew (meet_tree (meet_register v r) t)
    → HasFew (meet_register v r)
few_register v r t f =
    few_before (meet_register v r) (meet_tree (meet_register v r) t) (tree_longer (meet_register v r) t) f

pub few_first : (v : PlainValues) (t u : Tree ℕ Place) → HasFew (meet_tree (meet_tree v t) u) → HasFew (meet_tree v t)
few_first v t u f = few_before (meet_tree v t) (meet_tree (meet_tree v t) u) (tree_longer (meet_tree v t) u) f

pub few_label : (w : PlainValues) (l : Label) → HasFew (record w { label = Some l }) → HasFew w
few_label w l f = record { registers = f.registers; symbols = f.symbols; constants = f.constants }

pub few_move : (v : PlainValues) (m : PlainMove) (ms : List PlainMove) → HasFew (meet_moves (meet_move v m) ms)
    → HasFew (meet_move v m)
few_move v m ms f = few_before (meet_move v m) (meet_moves (meet_move v m) ms) (moves_longer (meet_move v m) ms) f

pub few_instruction : (p : PlainPair) → HasFew (pair_values p) → HasFew (meet_moves nothing_met p.a)
few_instruction p f =
    few_before (meet_moves nothing_met p.a) (pair_values p) (moves_longer (meet_moves nothing_met p.a) p.b) f

pub few_at : (v : PlainValues) (ts : List Transfer) (i : ℕ) (t : Transfer) → i < length ts → t ≡ get_or ts i t
    → HasFew (meet_moves v (moves_of (drop i ts))) → HasFew (meet_move v (move_of t))
few_at v ts i t h e f =
    let whole = ap (λ us. meet_moves v (moves_of us)) (drop-cons ts i t h) in
    let few = few_move v (move_of (get_or ts i t)) (moves_of (drop (suc i) ts)) (subst HasFew whole f) in
    subst (λ x. HasFew (meet_move v (move_of x))) (sym e) few

pub register_below : (v : PlainValues) (n k : ℕ) → HasFew (meet_register v (Virt n))
    → k ≡ position_or_len (reg_eq (Virt n)) (meet_register v (Virt n)).regs → k ≤ 65535
register_below v n k f e =
    let few = f.registers in
    let within = prefix_len-le-length (λ x. not (reg_eq (Virt n) x)) (meet_register v (Virt n)).regs in
    omega arith

pub symbol_below : (v : PlainValues) (s : Sym) (k : ℕ) → HasFew (meet_symbol v s)
    → k ≡ position_or_len (sym_eq s) (meet_symbol v s).syms → k ≤ 65535
symbol_below v s k f e =
    let few = f.symbols in
    let within = prefix_len-le-length (λ x. not (sym_eq s x)) (meet_symbol v s).syms in
    omega arith
