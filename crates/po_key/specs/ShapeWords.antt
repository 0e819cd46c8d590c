-- The words of a shape: each part begins with the number of its kind, and its own numbers and its parts follow. A list
-- ends with a number that begins no part of it. So no two shapes have the same words.
use Rattle.std.specs.Prelude.{ℕ, ◌≡◌, Bool, true, false, List, [], ◌∷◌, ◌++◌}
use Rattle.po_word.specs.declared.operator.Un.{Un}
use Rattle.po_word.specs.declared.operator.Un.TheVariants as un
use Rattle.po_word.specs.declared.operator.Bin.{Bin}
use Rattle.po_word.specs.declared.operator.Bin.TheVariants as bin
use Rattle.po_word.specs.declared.operator.Rel.{Rel}
use Rattle.po_word.specs.declared.operator.Rel.TheVariants as rel
use Rattle.po_word.specs.Exprs.{Expr, Number, AtHole, UnOf, BinOf, Log2Of}
use Rattle.po_term.specs.declared.term.Reg.TheVariants.{Virt, Fp, Rv, Arg}
use Rattle.po_term.specs.Tree.{Const, Leaf, Read, Unary, Binary}
use Rattle.po_term.specs.Moves.{Ending, GoTo, IfCc, IfTwo, CallOf, Return, SetTo, CcTo, StoreTo, Ends}
use Rattle.po_model.specs.declared.hole.PReg.{PReg}
use Rattle.po_model.specs.declared.hole.PReg.TheVariants.{Hole, Fixed}
use Rattle.po_model.specs.Holed.{HolePlace, InPReg, AtSymHole, HoleTree, HoleMove, PlainShape}

abbrev pub bit_word : Bool → ℕ
bit_word false = 0
bit_word true = 1

abbrev pub un_word : Un → ℕ
un_word un.Neg = 0
un_word un.Not = 1

abbrev pub bin_word : Bin → ℕ
bin_word bin.Add = 0
bin_word bin.Sub = 1
bin_word bin.Mul = 2
bin_word bin.And = 3
bin_word bin.Or = 4
bin_word bin.Xor = 5
bin_word bin.Shl = 6
bin_word bin.Sar = 7
bin_word bin.Shr = 8

abbrev pub rel_word : Rel → ℕ
rel_word rel.Eq = 0
rel_word rel.Ne = 1
rel_word rel.Lt = 2
rel_word rel.Le = 3
rel_word rel.Gt = 4
rel_word rel.Ge = 5
rel_word rel.Ltu = 6
rel_word rel.Geu = 7

-- constants: 0 to 4
abbrev pub expr_words : Expr → List ℕ
expr_words (AtHole k) = 0 ∷ k ∷ []
expr_words (Number c) = 1 ∷ c ∷ []
expr_words (UnOf o x) = 2 ∷ un_word o ∷ expr_words x
expr_words (BinOf o x y) = 3 ∷ bin_word o ∷ (expr_words x ++ expr_words y)
expr_words (Log2Of x) = 4 ∷ expr_words x

-- registers: 5 to 9
abbrev pub register_words : PReg → List ℕ
register_words (Hole k) = 5 ∷ k ∷ []
register_words (Fixed (Virt n)) = 6 ∷ n ∷ []
register_words (Fixed Fp) = 7 ∷ []
register_words (Fixed Rv) = 8 ∷ []
register_words (Fixed (Arg n)) = 9 ∷ n ∷ []

-- other terms: 10 to 13
abbrev pub tree_words : HoleTree → List ℕ
tree_words (Const e) = expr_words e
tree_words (Leaf (InPReg r)) = register_words r
tree_words (Leaf (AtSymHole k)) = 10 ∷ k ∷ []
tree_words (Read t) = 11 ∷ tree_words t
tree_words (Unary o t) = 12 ∷ un_word o ∷ tree_words t
tree_words (Binary o t u) = 13 ∷ bin_word o ∷ (tree_words t ++ tree_words u)

-- transfers: 14 to 20, and a set begins with its register
abbrev pub ending_words : Ending Expr HolePlace ℕ → List ℕ
ending_words (GoTo l) = 14 ∷ l.0 ∷ []
ending_words (IfCc r l) = 15 ∷ rel_word r ∷ l.0 ∷ []
ending_words (IfTwo t u r l) = 16 ∷ rel_word r ∷ l.0 ∷ (tree_words t ++ tree_words u)
ending_words (CallOf k n) = 17 ∷ k ∷ n ∷ []
ending_words Return = 18 ∷ []

abbrev pub move_words : HoleMove → List ℕ
move_words (SetTo r t) = register_words r ++ tree_words t
move_words (CcTo t u) = 19 ∷ (tree_words t ++ tree_words u)
move_words (StoreTo t u) = 20 ∷ (tree_words t ++ tree_words u)
move_words (Ends e) = ending_words e

-- an instruction ends with 21
abbrev pub moves_words : List HoleMove → List ℕ
moves_words [] = 21 ∷ []
moves_words (m ∷ ms) = move_words m ++ moves_words ms

abbrev pub registers_words : List PReg → List ℕ
registers_words [] = []
registers_words (r ∷ rs) = register_words r ++ registers_words rs

-- whether `cc` is live, the two instructions, and what else is live
abbrev pub shape_words : PlainShape → List ℕ
shape_words s = bit_word s.cc ∷ (moves_words s.a ++ (moves_words s.b ++ registers_words s.live))

-- the words tell the shape
abbrev pub WordsTellShapes : Type 0
WordsTellShapes = (s t : PlainShape) → shape_words s ≡ shape_words t → s ≡ t
