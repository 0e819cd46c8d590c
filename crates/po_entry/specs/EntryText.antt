-- The printed text of entries. Terms are printed as those of code are, with operands in place of what they stand for.
use Rattle.std.specs.Prelude.{ℕ, List, [], ◌∷◌, ◌++◌, map, codes, Bool, true, false, ◌==◌, ◌||◌, if◌then◌else◌}
use Rattle.std.specs.Prelude.{Option, Some, None}
use Rattle.std.specs.List.{flat_map}
use Rattle.std.specs.Fmt.{decimal, signed_decimal}
use Rattle.po_term.specs.Tree.{Const, Leaf, Read, Unary, Binary}
use Rattle.po_termtext.specs.TermText.{const_text, reg_text, un_text, bin_text, rel_text, joined}
use Rattle.po_model.specs.declared.machine.Bounds.{Bounds}
use Rattle.po_model.specs.declared.machine.PatReg.{PatReg}
use Rattle.po_model.specs.declared.machine.PatReg.TheVariants as register
use Rattle.po_model.specs.declared.machine.Piece.{Piece}
use Rattle.po_model.specs.declared.machine.Piece.TheVariants as piece
use Rattle.po_model.specs.declared.machine.Entry.{Entry}
use Rattle.po_model.specs.Patterns.{PatConst, Exactly, Operand, PatLeaf, InPatReg, AtSymbol, PatTree, PatMove, SetsTo}
use Rattle.po_model.specs.Patterns.{Compares, Stores, Jumps, Branches, BranchesOn, Calls, Returns, pat_moves_of}

-- an operand: its mark and its digit
abbrev pub operand_text : List ℕ → ℕ → List ℕ
operand_text mark k = mark ++ decimal k

abbrev pub pat_reg_text : PatReg → List ℕ
pat_reg_text (register.Any k) = operand_text (codes "%") k
pat_reg_text (register.Fixed r) = reg_text r

abbrev pub range_text : Option Bounds → List ℕ
range_text None = []
range_text (Some b) = codes "[" ++ signed_decimal b.lo ++ codes "," ++ signed_decimal b.hi ++ codes "]"

abbrev pub pat_const_text : PatConst → List ℕ
pat_const_text (Exactly n) = const_text n
pat_const_text (Operand k range) = operand_text (codes "#") k ++ range_text range

abbrev pub pat_leaf_text : PatLeaf → List ℕ
pat_leaf_text (InPatReg r) = pat_reg_text r
pat_leaf_text (AtSymbol k) = operand_text (codes "&") k

abbrev pub pat_term_text : PatTree → List ℕ
pat_term_text (Const c) = pat_const_text c
pat_term_text (Leaf l) = pat_leaf_text l
pat_term_text (Read a) = codes "M[" ++ pat_term_text a ++ codes "]"
pat_term_text (Unary o a) = un_text o ++ codes "(" ++ pat_term_text a ++ codes ")"
pat_term_text (Binary o a b) = codes "(" ++ pat_term_text a ++ codes " " ++ bin_text o ++ codes " " ++ pat_term_text b
    ++ codes ")"

abbrev pub pat_move_text : PatMove → List ℕ
pat_move_text (SetsTo r a) = pat_reg_text r ++ codes " := " ++ pat_term_text a
pat_move_text (Compares a b) = codes "cc := " ++ pat_term_text a ++ codes " ? " ++ pat_term_text b
pat_move_text (Stores a b) = codes "M[" ++ pat_term_text a ++ codes "] := " ++ pat_term_text b
pat_move_text (Jumps k) = codes "goto " ++ operand_text (codes "@") k
pat_move_text (Branches r k) = codes "if cc " ++ rel_text r ++ codes " goto " ++ operand_text (codes "@") k
pat_move_text (BranchesOn a b r k) = codes "if " ++ pat_term_text a ++ codes " ? " ++ pat_term_text b ++ codes " "
    ++ rel_text r ++ codes " goto " ++ operand_text (codes "@") k
pat_move_text (Calls k) = codes "call " ++ operand_text (codes "&") k
pat_move_text Returns = codes "ret"

-- the transfers of an entry, joined by ` ; `
abbrev pub pattern_text : List PatMove → List ℕ
pattern_text ms = joined (codes " ; ") (map pat_move_text ms)

abbrev pub clobber_text : Bool → List ℕ
clobber_text true = codes " clobber cc"
clobber_text false = []

-- the bytes that begin an operand: `%`, `#`, `@`, `&`
abbrev pub is_mark : ℕ → Bool
is_mark b = b == 37 || b == 35 || b == 64 || b == 38

-- a byte that stands for itself; a mark is written twice
abbrev pub byte_text : ℕ → List ℕ
byte_text b = if is_mark b then b ∷ b ∷ [] else b ∷ []

abbrev pub piece_text : Piece → List ℕ
piece_text (piece.Byte b) = byte_text b
piece_text (piece.Reg k) = operand_text (codes "%") k
piece_text (piece.Num k) = operand_text (codes "#") k
piece_text (piece.Label k) = operand_text (codes "@") k
piece_text (piece.Sym k) = operand_text (codes "&") k

abbrev pub template_text : List Piece → List ℕ
template_text ps = flat_map piece_text ps

-- the line of an entry, without its line feed
unfoldable pub entry_text : Entry → List ℕ
entry_text e = codes "insn " ++ pattern_text (pat_moves_of e.pattern) ++ clobber_text e.clobbers ++ codes " => "
    ++ template_text e.template
