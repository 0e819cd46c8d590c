-- The naive code of a unit: what each operation does on a list of registers as the stack, cut into blocks.
use Rattle.std.specs.Prelude.{ℕ, ◌+◌, if◌then◌else◌, List, [], ◌∷◌, ◌++◌, nat_eq, Option, Some, None, is_some}
use Rattle.std.specs.List.{flat_map, position_or_len}
use Rattle.std.specs.Cmp.Lexicographic.{pointwise}
use Rattle.po_word.specs.declared.operator.Bin.TheVariants.{Add}
use Rattle.po_term.specs.declared.term.Reg.{Reg}
use Rattle.po_term.specs.declared.term.Reg.TheVariants.{Virt, Fp, Rv, Arg}
use Rattle.po_term.specs.declared.term.Sym.{Sym}
use Rattle.po_term.specs.declared.term.Label.{Label}
use Rattle.po_term.specs.Tree.{Tree, Const, Leaf, Read, Unary, Binary}
use Rattle.po_term.specs.Terms.{Place, InReg, AtSym}
use Rattle.po_term.specs.Moves.{GoTo, IfCc, CallOf, Return, SetTo, CcTo, StoreTo, Ends, PlainMove, PlainInstr}
use Rattle.po_lines.specs.NameList.{has}
use Rattle.po_ir.specs.declared.unit.Op.{Op}
use Rattle.po_ir.specs.declared.unit.Op.TheVariants as op
use Rattle.po_ir.specs.declared.unit.Unit.{Unit as StackUnit}
use Rattle.po_ir.specs.Ops.{labels_of}
use Rattle.po_model.specs.Blocks.{PlainBlock}
use Rattle.po_model.specs.UnitCodes.{PlainUnit}
use Rattle.po_model.specs.Parts.{ending_of}

abbrev pub Text : Type 0
Text = List ℕ

-- the symbol that an operation names
abbrev pub sym_in : Op → List Text
sym_in (op.Con n) = []
sym_in (op.Adl n) = []
sym_in (op.Adg s) = s ∷ []
sym_in op.Lod = []
sym_in op.Sto = []
sym_in (op.Bin o) = []
sym_in (op.Un o) = []
sym_in op.Dup = []
sym_in op.Pop = []
sym_in (op.Lab l) = []
sym_in (op.Jmp l) = []
sym_in (op.Br r l) = []
sym_in (op.Arg k) = []
sym_in (op.Call f n) = f ∷ []
sym_in op.Ret = []

-- one name more, where it isn't there
abbrev pub with_name : List Text → Text → List Text
with_name names n = if has n names then names else names ++ n ∷ []

-- these names, and then each other one at its first occurrence
abbrev pub names_behind : List Text → List Text → List Text
names_behind names [] = names
names_behind names (n ∷ ns) = names_behind (with_name names n) ns

-- each name at its first occurrence
abbrev pub each_once : List Text → List Text
each_once ns = names_behind [] ns

-- the number of a name: so many stand before it
abbrev pub number_in : List Text → Text → ℕ
number_in names n = position_or_len (pointwise nat_eq n) names

-- what stands in a code before it is cut: a label, or an instruction of one move
pub data Piece : Type 0 where
  Mark : Label → Piece
  Does : PlainMove → Piece

abbrev pub register : Reg → Tree ℕ Place
register r = Leaf (InReg r)

-- the register v with this number
abbrev pub virt : ℕ → Tree ℕ Place
virt v = register (Virt v)

module _ (labels syms : List Text) where
  abbrev pub label : Text → Label
  label l = record { 0 = number_in labels l }

  abbrev pub symbol : Text → Sym
  symbol s = record { 0 = number_in syms s }

  -- what these operations do, where vk is the next register and these registers lie on the stack, the top first
  abbrev pub pieces : ℕ → List ℕ → List Op → List Piece
  pieces k stack [] = []
  pieces k stack (op.Con n ∷ os) = Does (SetTo (Virt k) (Const n)) ∷ pieces (k + 1) (k ∷ stack) os
  pieces k stack (op.Adl n ∷ os) = Does (SetTo (Virt k) (Binary Add (register Fp) (Const n))) ∷ pieces (k + 1)
      (k ∷ stack) os
  pieces k stack (op.Adg s ∷ os) = Does (SetTo (Virt k) (Leaf (AtSym (symbol s)))) ∷ pieces (k + 1) (k ∷ stack) os
  pieces k (a ∷ stack) (op.Lod ∷ os) = Does (SetTo (Virt k) (Read (virt a))) ∷ pieces (k + 1) (k ∷ stack) os
  pieces k (b ∷ a ∷ stack) (op.Sto ∷ os) = Does (StoreTo (virt a) (virt b)) ∷ pieces k stack os
  pieces k (b ∷ a ∷ stack) (op.Bin o ∷ os) = Does (SetTo (Virt k) (Binary o (virt a) (virt b))) ∷ pieces (k + 1)
      (k ∷ stack) os
  pieces k (a ∷ stack) (op.Un o ∷ os) = Does (SetTo (Virt k) (Unary o (virt a))) ∷ pieces (k + 1) (k ∷ stack) os
  pieces k (a ∷ stack) (op.Dup ∷ os) = pieces k (a ∷ a ∷ stack) os
  pieces k (a ∷ stack) (op.Pop ∷ os) = pieces k stack os
  pieces k stack (op.Lab l ∷ os) = Mark (label l) ∷ pieces k stack os
  pieces k stack (op.Jmp l ∷ os) = Does (Ends (GoTo (label l))) ∷ pieces k stack os
  pieces k (b ∷ a ∷ stack) (op.Br r l ∷ os) = Does (CcTo (virt a) (virt b)) ∷ Does (Ends (IfCc r (label l))) ∷ pieces
      k stack os
  pieces k (a ∷ stack) (op.Arg n ∷ os) = Does (SetTo (Arg n) (virt a)) ∷ pieces k stack os
  pieces k stack (op.Call f n ∷ os) = Does (Ends (CallOf (symbol f) n)) ∷ Does (SetTo (Virt k) (register Rv)) ∷ pieces
      (k + 1) (k ∷ stack) os
  pieces k (a ∷ stack) (op.Ret ∷ os) = Does (SetTo Rv (virt a)) ∷ Does (Ends Return) ∷ pieces k stack os
  -- in a unit each operation finds what it takes
  pieces k stack (o ∷ os) = []

-- a block without a label and without an instruction
abbrev pub blank : PlainBlock
blank = record { label = None; instrs = [] }

-- the block, unless it has no label and no instruction
abbrev pub unless_blank : Option Label → List PlainInstr → List PlainBlock
unless_blank None [] = []
unless_blank None (i ∷ is) = record { label = None; instrs = i ∷ is } ∷ []
unless_blank (Some l) is = record { label = Some l; instrs = is } ∷ []

-- the blocks of these pieces, where one has begun with this label and these instructions: it ends before a label,
-- unless it is blank, and behind a control transfer
abbrev pub cut : Option Label → List PlainInstr → List Piece → List PlainBlock
cut named is [] = unless_blank named is
cut named is (Mark l ∷ ps) = unless_blank named is ++ cut (Some l) [] ps
cut named is (Does m ∷ ps) = if is_some (ending_of (m ∷ []))
    then record { label = named; instrs = is ++ (m ∷ []) ∷ [] } ∷ cut None [] ps
    else cut named (is ++ (m ∷ []) ∷ []) ps

abbrev pub blocks_in : List Text → List Text → List Op → List PlainBlock
blocks_in labels syms os = cut None [] (pieces labels syms 0 [] os)

-- labels are numbered in the order of `lab`, symbols by first occurrence
abbrev pub naive : StackUnit → PlainUnit
naive u = record {
  name = u.name;
  labels = each_once (labels_of u.ops);
  syms = each_once (flat_map sym_in u.ops);
  code = blocks_in (each_once (labels_of u.ops)) (each_once (flat_map sym_in u.ops)) u.ops;
}
