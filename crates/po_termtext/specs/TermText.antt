-- The printed text of terms, transfers and instructions.
use Rattle.std.specs.Prelude.{ℕ, List, [], ◌∷◌, ◌++◌, map, codes}
use Rattle.std.specs.List.{flat_map}
use Rattle.std.specs.Fmt.{decimal, signed_decimal}
use Rattle.po_word.specs.Words.{signed}
use Rattle.po_word.specs.declared.operator.Un.{Un}
use Rattle.po_word.specs.declared.operator.Un.TheVariants.{Neg, Not}
use Rattle.po_word.specs.declared.operator.Bin.{Bin}
use Rattle.po_word.specs.declared.operator.Bin.TheVariants.{Add, Sub, Mul, And, Or, Xor, Shl, Sar, Shr}
use Rattle.po_word.specs.declared.operator.Rel.{Rel}
use Rattle.po_word.specs.declared.operator.Rel.TheVariants.{Eq, Ne, Lt, Le, Gt, Ge, Ltu, Geu}
use Rattle.po_term.specs.declared.term.Reg.{Reg}
use Rattle.po_term.specs.declared.term.Reg.TheVariants.{Virt, Fp, Rv, Arg}
use Rattle.po_term.specs.declared.term.Sym.{Sym}
use Rattle.po_term.specs.declared.term.Label.{Label}
use Rattle.po_term.specs.Tree.{Tree, Const, Leaf, Read, Unary, Binary}
use Rattle.po_term.specs.Terms.{Place, InReg, AtSym}
use Rattle.po_term.specs.Moves.{Move, SetTo, CcTo, StoreTo, Ends, Ending, GoTo, IfCc, IfTwo, CallOf, Return}

-- a constant by its signed view
abbrev pub const_text : ℕ → List ℕ
const_text c = signed_decimal (signed c)

abbrev pub reg_text : Reg → List ℕ
reg_text (Virt n) = codes "v" ++ decimal n
reg_text Fp = codes "fp"
reg_text Rv = codes "rv"
reg_text (Arg n) = codes "arg" ++ decimal n

abbrev pub symbol_text : Sym → List ℕ
symbol_text s = codes "&s" ++ decimal s.0

abbrev pub label_text : Label → List ℕ
label_text l = codes "L" ++ decimal l.0

abbrev pub place_text : Place → List ℕ
place_text (InReg r) = reg_text r
place_text (AtSym s) = symbol_text s

abbrev pub un_text : Un → List ℕ
un_text Neg = codes "neg"
un_text Not = codes "not"

abbrev pub bin_text : Bin → List ℕ
bin_text Add = codes "+"
bin_text Sub = codes "-"
bin_text Mul = codes "*"
bin_text And = codes "&"
bin_text Or = codes "|"
bin_text Xor = codes "^"
bin_text Shl = codes "<<"
bin_text Sar = codes ">>"
bin_text Shr = codes ">>>"

-- all of them
abbrev pub operators : List Bin
operators = Add ∷ Sub ∷ Mul ∷ And ∷ Or ∷ Xor ∷ Shl ∷ Sar ∷ Shr ∷ []

abbrev pub rel_text : Rel → List ℕ
rel_text Eq = codes "eq"
rel_text Ne = codes "ne"
rel_text Lt = codes "lt"
rel_text Le = codes "le"
rel_text Gt = codes "gt"
rel_text Ge = codes "ge"
rel_text Ltu = codes "ltu"
rel_text Geu = codes "geu"

abbrev pub term_text : Tree ℕ Place → List ℕ
term_text (Const c) = const_text c
term_text (Leaf p) = place_text p
term_text (Read a) = codes "M[" ++ term_text a ++ codes "]"
term_text (Unary o a) = un_text o ++ codes "(" ++ term_text a ++ codes ")"
term_text (Binary o a b) = codes "(" ++ term_text a ++ codes " " ++ bin_text o ++ codes " " ++ term_text b ++ codes ")"

abbrev pub ending_text : Ending ℕ Place Sym → List ℕ
ending_text (GoTo l) = codes "goto " ++ label_text l
ending_text (IfCc r l) = codes "if cc " ++ rel_text r ++ codes " goto " ++ label_text l
ending_text (IfTwo a b r l) = codes "if " ++ term_text a ++ codes " ? " ++ term_text b ++ codes " " ++ rel_text r
    ++ codes " goto " ++ label_text l
ending_text (CallOf s n) = codes "call " ++ symbol_text s ++ codes " " ++ decimal n
ending_text Return = codes "ret"

abbrev pub move_text : Move ℕ Place Reg Sym → List ℕ
move_text (SetTo r a) = reg_text r ++ codes " := " ++ term_text a
move_text (CcTo a b) = codes "cc := " ++ term_text a ++ codes " ? " ++ term_text b
move_text (StoreTo a b) = codes "M[" ++ term_text a ++ codes "] := " ++ term_text b
move_text (Ends e) = ending_text e

-- texts with a separator between them
abbrev pub joined : List ℕ → List (List ℕ) → List ℕ
joined separator [] = []
joined separator (t ∷ ts) = t ++ flat_map (λ u. separator ++ u) ts

-- an instruction, as its list of moves
abbrev pub instr_text : List (Move ℕ Place Reg Sym) → List ℕ
instr_text ms = joined (codes " ; ") (map move_text ms)
