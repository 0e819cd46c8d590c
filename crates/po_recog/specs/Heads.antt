-- The head of a list of transfers: its one transfer's kind, and the forms of its terms. Heads are compared by number.
use Rattle.std.specs.Prelude.{ℕ, ◌+◌, ◌*◌, List, [], ◌∷◌}
use Rattle.po_term.specs.Tree.{Tree, Const, Leaf, Read, Unary, Binary}
use Rattle.po_term.specs.Terms.{Place, InReg, AtSym, PlainTerm}
use Rattle.po_term.specs.Moves.{PlainMove, PlainInstr, SetTo, CcTo, StoreTo, Ends, GoTo, IfCc, IfTwo, CallOf, Return}
use Rattle.po_model.specs.declared.machine.Entry.{Entry}
use Rattle.po_model.specs.Operators.{un_place, bin_place, rel_place}
use Rattle.po_model.specs.Patterns.{PatLeaf, InPatReg, AtSymbol, PatTree, PatMove, pat_moves_of}
use Rattle.po_model.specs.Patterns.{SetsTo, Compares, Stores, Jumps, Branches, BranchesOn, Calls, Returns}
use Rattle.po_recog.specs.declared.head.Form.{Form}
use Rattle.po_recog.specs.declared.head.Form.TheVariants as form
use Rattle.po_recog.specs.declared.head.Head.{Head}
use Rattle.po_recog.specs.declared.head.Head.TheVariants as head

module _ {K L : Type 0} (leaf : L → Form) where
  -- the outermost form of a term
  abbrev pub outer : Tree K L → Form
  outer (Const c) = form.Num
  outer (Leaf l) = leaf l
  outer (Read t) = form.Mem
  outer (Unary o t) = form.Un o
  outer (Binary o t u) = form.Bin o

  -- the form of what is read, or of a second operand; of another term its own
  abbrev pub inner : Tree K L → Form
  inner (Read t) = outer t
  inner (Binary o t u) = outer u
  inner (Const c) = form.Num
  inner (Leaf l) = leaf l
  inner (Unary o t) = form.Un o

-- the form of a leaf
abbrev pub place_form : Place → Form
place_form (InReg r) = form.Reg
place_form (AtSym s) = form.Addr

abbrev pub leaf_form : PatLeaf → Form
leaf_form (InPatReg p) = form.Reg
leaf_form (AtSymbol k) = form.Addr

-- the two forms of a term of a code, and of a pattern's
abbrev pub term_outer : PlainTerm → Form
term_outer t = outer place_form t

abbrev pub term_inner : PlainTerm → Form
term_inner t = inner place_form t

abbrev pub pattern_outer : PatTree → Form
pattern_outer p = outer leaf_form p

abbrev pub pattern_inner : PatTree → Form
pattern_inner p = inner leaf_form p

-- the head of one transfer
abbrev pub move_head : PlainMove → Head
move_head (SetTo r t) = head.Set (term_outer t) (term_inner t)
move_head (CcTo t u) = head.Cc (term_outer t) (term_outer u)
move_head (StoreTo t u) = head.Store (term_outer t) (term_outer u)
move_head (Ends (GoTo l)) = head.Goto
move_head (Ends (IfCc r l)) = head.IfCc r
move_head (Ends (IfTwo t u r l)) = head.IfTwo (term_outer t) (term_outer u)
move_head (Ends (CallOf s n)) = head.Call
move_head (Ends Return) = head.Ret

abbrev pub pat_move_head : PatMove → Head
pat_move_head (SetsTo r p) = head.Set (pattern_outer p) (pattern_inner p)
pat_move_head (Compares p q) = head.Cc (pattern_outer p) (pattern_outer q)
pat_move_head (Stores p q) = head.Store (pattern_outer p) (pattern_outer q)
pat_move_head (Jumps k) = head.Goto
pat_move_head (Branches r k) = head.IfCc r
pat_move_head (BranchesOn p q r k) = head.IfTwo (pattern_outer p) (pattern_outer q)
pat_move_head (Calls k) = head.Call
pat_move_head Returns = head.Ret

-- the head of a list: where it has one transfer, that one's
abbrev pub list_head : {M : Type 0} → (M → Head) → List M → Head
list_head one [] = head.Nothing
list_head one (m ∷ []) = one m
list_head one (m ∷ n ∷ ms) = head.Several

abbrev pub moves_head : PlainInstr → Head
moves_head ms = list_head move_head ms

abbrev pub pat_moves_head : List PatMove → Head
pat_moves_head ps = list_head pat_move_head ps

-- the head of an entry's pattern
abbrev pub entry_head : Entry → Head
entry_head e = pat_moves_head (pat_moves_of e.pattern)

-- the number of a form, below 16
abbrev pub form_number : Form → ℕ
form_number form.Num = 0
form_number form.Reg = 1
form_number form.Addr = 2
form_number form.Mem = 3
form_number (form.Un o) = 4 + un_place o
form_number (form.Bin o) = 6 + bin_place o

-- the number of this kind of transfers, with terms of these forms
abbrev pub two_number : ℕ → Form → Form → ℕ
two_number kind f g = (kind * 16 + form_number f) * 16 + form_number g

-- the number of a head
abbrev pub head_number : Head → ℕ
head_number head.Nothing = 0
head_number head.Several = 1
head_number head.Goto = 2
head_number head.Call = 3
head_number head.Ret = 4
head_number (head.IfCc r) = 5 + rel_place r
head_number (head.Set f g) = two_number 1 f g
head_number (head.Cc f g) = two_number 2 f g
head_number (head.Store f g) = two_number 3 f g
head_number (head.IfTwo f g) = two_number 4 f g

-- the number of a list's head, and of an entry's
abbrev pub list_number : PlainInstr → ℕ
list_number ms = head_number (moves_head ms)

abbrev pub entry_number : Entry → ℕ
entry_number e = head_number (entry_head e)
