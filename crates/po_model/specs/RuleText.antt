-- The text of a rule: one line `A | B live NAMES ask QUESTIONS => RESULT`.
use Rattle.std.specs.Prelude.{ℕ, Bool, true, false, List, [], ◌∷◌, ◌++◌, map, codes}
use Rattle.std.specs.Fmt.{decimal, signed_decimal}
use Rattle.po_word.specs.Exprs.{Expr, Number, AtHole, UnOf, BinOf, Log2Of, Ask, Zero, One, Ones, Pow2, Within, Same}
use Rattle.po_word.specs.Exprs.{Related}
use Rattle.po_term.specs.Tree.{Const, Leaf, Read, Unary, Binary}
use Rattle.po_term.specs.Moves.{Ending, GoTo, IfCc, IfTwo, CallOf, Return, SetTo, CcTo, StoreTo, Ends}
use Rattle.po_termtext.specs.TermText.{const_text, reg_text, un_text, bin_text, rel_text, joined}
use Rattle.po_model.specs.declared.hole.PReg.{PReg}
use Rattle.po_model.specs.declared.hole.PReg.TheVariants.{Hole, Fixed}
use Rattle.po_model.specs.Combined.{Kept, Gone, AsOne}
use Rattle.po_model.specs.Holed.{HolePlace, InPReg, AtSymHole, HoleTree, HoleMove, HoleCombination, Asked, PlainRule}

-- a hole, a number by its signed view, or an operator
abbrev pub expr_text : Expr → List ℕ
expr_text (Number c) = const_text c
expr_text (AtHole k) = codes "#" ++ decimal k
expr_text (UnOf o x) = un_text o ++ codes "(" ++ expr_text x ++ codes ")"
expr_text (BinOf o x y) = codes "(" ++ expr_text x ++ codes " " ++ bin_text o ++ codes " " ++ expr_text y ++ codes ")"
expr_text (Log2Of x) = codes "log2(" ++ expr_text x ++ codes ")"

-- as a constant of a term, an operator stands between braces
abbrev pub hole_const_text : Expr → List ℕ
hole_const_text (Number c) = const_text c
hole_const_text (AtHole k) = codes "#" ++ decimal k
hole_const_text e = codes "{" ++ expr_text e ++ codes "}"

abbrev pub hole_reg_text : PReg → List ℕ
hole_reg_text (Hole k) = codes "%" ++ decimal k
hole_reg_text (Fixed r) = reg_text r

abbrev pub hole_symbol_text : ℕ → List ℕ
hole_symbol_text k = codes "&" ++ decimal k

abbrev pub hole_place_text : HolePlace → List ℕ
hole_place_text (InPReg r) = hole_reg_text r
hole_place_text (AtSymHole k) = hole_symbol_text k

abbrev pub hole_term_text : HoleTree → List ℕ
hole_term_text (Const e) = hole_const_text e
hole_term_text (Leaf p) = hole_place_text p
hole_term_text (Read a) = codes "M[" ++ hole_term_text a ++ codes "]"
hole_term_text (Unary o a) = un_text o ++ codes "(" ++ hole_term_text a ++ codes ")"
hole_term_text (Binary o a b) = codes "(" ++ hole_term_text a ++ codes " " ++ bin_text o ++ codes " "
    ++ hole_term_text b ++ codes ")"

-- the label is @0
abbrev pub hole_ending_text : Ending Expr HolePlace ℕ → List ℕ
hole_ending_text (GoTo l) = codes "goto @0"
hole_ending_text (IfCc r l) = codes "if cc " ++ rel_text r ++ codes " goto @0"
hole_ending_text (IfTwo a b r l) = codes "if " ++ hole_term_text a ++ codes " ? " ++ hole_term_text b ++ codes " "
    ++ rel_text r ++ codes " goto @0"
hole_ending_text (CallOf k n) = codes "call " ++ hole_symbol_text k ++ codes " " ++ decimal n
hole_ending_text Return = codes "ret"

abbrev pub hole_move_text : HoleMove → List ℕ
hole_move_text (SetTo r a) = hole_reg_text r ++ codes " := " ++ hole_term_text a
hole_move_text (CcTo a b) = codes "cc := " ++ hole_term_text a ++ codes " ? " ++ hole_term_text b
hole_move_text (StoreTo a b) = codes "M[" ++ hole_term_text a ++ codes "] := " ++ hole_term_text b
hole_move_text (Ends e) = hole_ending_text e

abbrev pub hole_list_text : List HoleMove → List ℕ
hole_list_text ms = joined (codes " ; ") (map hole_move_text ms)

abbrev pub cc_alone : Bool → List ℕ
cc_alone true = codes "cc"
cc_alone false = codes "-"

abbrev pub cc_behind : Bool → List ℕ
cc_behind true = codes " cc"
cc_behind false = []

-- the registers that are live, and then cc, or a dash
abbrev pub names_text : List PReg → Bool → List ℕ
names_text [] cc = cc_alone cc
names_text (r ∷ rs) cc = joined (codes " ") (map hole_reg_text (r ∷ rs)) ++ cc_behind cc

abbrev pub ask_text : Ask Expr → List ℕ
ask_text (Zero e) = codes "zero(" ++ expr_text e ++ codes ")"
ask_text (One e) = codes "one(" ++ expr_text e ++ codes ")"
ask_text (Ones e) = codes "ones(" ++ expr_text e ++ codes ")"
ask_text (Pow2 e) = codes "pow2(" ++ expr_text e ++ codes ")"
ask_text (Within e lo hi) = codes "in(" ++ expr_text e ++ codes "," ++ signed_decimal lo ++ codes ","
    ++ signed_decimal hi ++ codes ")"
ask_text (Same e f) = codes "same(" ++ expr_text e ++ codes "," ++ expr_text f ++ codes ")"
ask_text (Related r e f) = rel_text r ++ codes "(" ++ expr_text e ++ codes "," ++ expr_text f ++ codes ")"

abbrev pub answer_text : Bool → List ℕ
answer_text true = codes " yes"
answer_text false = codes " no"

abbrev pub asked_text : Ask Expr × Bool → List ℕ
asked_text qa = ask_text qa.0 ++ answer_text qa.1

abbrev pub path_text : Asked → List ℕ
path_text [] = codes "-"
path_text (qa ∷ qas) = joined (codes ", ") (map asked_text (qa ∷ qas))

abbrev pub result_text : HoleCombination → List ℕ
result_text Kept = codes "keep"
result_text Gone = codes "nothing"
result_text (AsOne ms) = hole_list_text ms

abbrev pub rule_text : PlainRule → List ℕ
rule_text r =
    hole_list_text r.shape.a ++ codes " | " ++ hole_list_text r.shape.b ++ codes " live " ++ names_text r.shape.live
    r.shape.cc
    ++ codes " ask " ++ path_text r.asked ++ codes " => " ++ result_text r.result
