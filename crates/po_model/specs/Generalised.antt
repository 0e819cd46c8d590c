-- The rule of a pair: its shape, the questions that slow combination of the shape asks with the answers of the pair's
-- constants, and what it ends with.
--
-- Slow combination is read over the shape: its constants are expressions, a fold writes an expression, and each
-- question is answered by the pair's constants. A question without a hole is left out, and so is one that equals an
-- earlier one.
use Rattle.std.specs.Prelude.{ℕ, Bool, true, false, not, ◌&&◌, ◌||◌, ◌==◌, if◌then◌else◌, List, [], ◌∷◌, ◌++◌, Option}
use Rattle.std.specs.Prelude.{Some, None}
use Rattle.std.specs.List.{list_any}
use Rattle.std.specs.Ordering.{int_eq}
use Rattle.po_word.specs.Exprs.{Expr, Number, AtHole, UnOf, BinOf, Log2Of, Ask, Zero, One, Ones, Pow2, Within, Same}
use Rattle.po_word.specs.Exprs.{Related, ask_map, is_so, expr_value}
use Rattle.po_term.specs.Kinds.{Met, exprs}
use Rattle.po_term.specs.Simplified.{reg_eq}
use Rattle.po_model.specs.declared.machine.Machine.{Machine}
use Rattle.po_model.specs.declared.hole.PReg.{PReg}
use Rattle.po_model.specs.declared.hole.PReg.TheVariants.{Hole, Fixed}
use Rattle.po_model.specs.Operators.{un_eq, bin_eq, rel_eq}
use Rattle.po_model.specs.Parts.{Leaves}
use Rattle.po_model.specs.Pairs.{PlainPair}
use Rattle.po_model.specs.Combined.{combined}
use Rattle.po_model.specs.Holed.{HolePlace, InPReg, AtSymHole, HoleCombination, PlainShape, Asked, PlainRule}
use Rattle.po_model.specs.Shape.{pair_values, pair_shape}

-- both are one register: different holes have different registers
abbrev pub hole_register_eq : PReg → PReg → Bool
hole_register_eq (Hole j) (Hole k) = j == k
hole_register_eq (Fixed r) (Fixed q) = reg_eq r q
hole_register_eq r q = false

-- both are the same register
abbrev pub same_hole_register : HolePlace → HolePlace → Bool
same_hole_register (InPReg r) (InPReg q) = hole_register_eq r q
same_hole_register p q = false

-- both are the same register, or the same symbol: different holes have different symbols
abbrev pub same_hole_place : HolePlace → HolePlace → Bool
same_hole_place (InPReg r) (InPReg q) = hole_register_eq r q
same_hole_place (AtSymHole j) (AtSymHole k) = j == k
same_hole_place p q = false

abbrev pub hole_register_at : HolePlace → Option PReg
hole_register_at (InPReg r) = Some r
hole_register_at (AtSymHole k) = None

abbrev pub hole_symbol_at : HolePlace → Option ℕ
hole_symbol_at (InPReg r) = None
hole_symbol_at (AtSymHole k) = Some k

-- the leaves of a rule
abbrev pub hole_leaves : Leaves HolePlace PReg ℕ
hole_leaves = record {
  same_register = same_hole_register;
  same_leaf = same_hole_place;
  in_register = InPReg;
  register = hole_register_at;
  symbol = hole_symbol_at;
  is_fixed = λ q r. hole_register_eq (Fixed q) r;
  register_eq = hole_register_eq;
  symbol_eq = λ j k. j == k;
}

-- whether a register is among those that are live after a pair of the shape
abbrev pub is_live_in : PlainShape → PReg → Bool
is_live_in s r = list_any (hole_register_eq r) s.live

-- what becomes of the pairs of a shape whose constants are ws, and the questions that are asked on the way
abbrev pub reading : Machine → List ℕ → PlainShape → Met Expr HoleCombination
reading m ws s = combined (exprs ws) hole_leaves m (is_live_in s) s.cc s.a s.b

abbrev pub expr_eq : Expr → Expr → Bool
expr_eq (Number c) (Number d) = c == d
expr_eq (AtHole j) (AtHole k) = j == k
expr_eq (UnOf o x) (UnOf p y) = un_eq o p && expr_eq x y
expr_eq (BinOf o x u) (BinOf p y v) = bin_eq o p && expr_eq x y && expr_eq u v
expr_eq (Log2Of x) (Log2Of y) = expr_eq x y
expr_eq x y = false

-- both are one question
abbrev pub ask_eq : Ask Expr → Ask Expr → Bool
ask_eq (Zero x) (Zero y) = expr_eq x y
ask_eq (One x) (One y) = expr_eq x y
ask_eq (Ones x) (Ones y) = expr_eq x y
ask_eq (Pow2 x) (Pow2 y) = expr_eq x y
ask_eq (Within x lo hi) (Within y low high) = expr_eq x y && int_eq lo low && int_eq hi high
ask_eq (Same x u) (Same y v) = expr_eq x y && expr_eq u v
ask_eq (Related r x u) (Related s y v) = rel_eq r s && expr_eq x y && expr_eq u v
ask_eq p q = false

abbrev pub has_hole : Expr → Bool
has_hole (Number c) = false
has_hole (AtHole k) = true
has_hole (UnOf o x) = has_hole x
has_hole (BinOf o x y) = has_hole x || has_hole y
has_hole (Log2Of x) = has_hole x

abbrev pub asks_hole : Ask Expr → Bool
asks_hole (Zero x) = has_hole x
asks_hole (One x) = has_hole x
asks_hole (Ones x) = has_hole x
asks_hole (Pow2 x) = has_hole x
asks_hole (Within x lo hi) = has_hole x
asks_hole (Same x y) = has_hole x || has_hole y
asks_hole (Related r x y) = has_hole x || has_hole y

-- the questions that are kept, with one more that is met: where it has a hole and isn't there yet
abbrev pub keep_asked : List ℕ → Asked → Ask Expr → Asked
keep_asked ws kept q = if asks_hole q && not (list_any (λ qa. ask_eq q qa.0) kept)
    then kept ++ (q, is_so (ask_map (expr_value ws) q)) ∷ [] else kept

abbrev pub path : List ℕ → Asked → List (Ask Expr) → Asked
path ws kept [] = kept
path ws kept (q ∷ qs) = path ws (keep_asked ws kept q) qs

abbrev pub generalised : Machine → PlainPair → PlainRule
generalised m p = record {
  shape = pair_shape p;
  asked = path (pair_values p).consts [] (reading m (pair_values p).consts (pair_shape p)).asked;
  result = (reading m (pair_values p).consts (pair_shape p)).got;
}
