-- The operands seen so far: each of the ten digits has one kind in an entry.
use Rattle.std.specs.Prelude.{ℕ, Bool, true, false, [], ◌∷◌, slice_set, Option, Some, None}
use Rattle.std.specs.List.{slice_index_or}
use Rattle.po_pattern.specs.declared.operands.Operands.{Operands}
use Rattle.po_pattern.specs.declared.operands.OperandKind.{OperandKind}
use Rattle.po_pattern.specs.declared.operands.OperandKind.TheVariants.{Register, Constant, Symbol, Label}

-- no operand is seen yet
abbrev pub none_seen : Operands
none_seen = record { kinds = None ∷ None ∷ None ∷ None ∷ None ∷ None ∷ None ∷ None ∷ None ∷ None ∷ [] }

-- the kind that the digit k has, if it has one
abbrev pub kind_of : Operands → ℕ → Option OperandKind
kind_of seen k = slice_index_or seen.kinds k None

-- the same with the operand of this kind and digit
abbrev pub with_operand : Operands → OperandKind → ℕ → Operands
with_operand seen kind k = record { kinds = slice_set seen.kinds k (Some kind) }

abbrev pub same_kind : OperandKind → OperandKind → Bool
same_kind Register Register = true
same_kind Constant Constant = true
same_kind Symbol Symbol = true
same_kind Label Label = true
same_kind _ _ = false

-- a digit that has no other kind may have this one
abbrev pub may_be : OperandKind → Option OperandKind → Bool
may_be kind None = true
may_be kind (Some other) = same_kind other kind

abbrev pub is_new : Option OperandKind → Bool
is_new None = true
is_new (Some kind) = false
