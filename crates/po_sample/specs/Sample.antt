-- Sample units. Unit k has eight statements, whose kinds, places and constants are drawn one after another.
use Rattle.std.specs.Prelude.{ℕ, zero, suc, ◌+◌, List, [], ◌∷◌, ◌++◌, codes, ◌==◌, if◌then◌else◌}
use Rattle.std.specs.Fmt.{decimal}
use Rattle.po_word.specs.declared.operator.Bin.TheVariants.{Add}
use Rattle.po_word.specs.declared.operator.Rel.TheVariants.{Eq}
use Rattle.po_ir.specs.declared.unit.Op.{Op}
use Rattle.po_ir.specs.declared.unit.Op.TheVariants.{Con, Adl, Lod, Sto, Bin, Lab, Br, Ret}
use Rattle.po_ir.specs.declared.unit.Unit.{Unit as StackUnit}
use Rattle.po_sample.specs.Draws.{start, step, kind, place, constant}

-- operations, and where the generator stands behind them
pub record Drawn : Type 0 where
  pub ops : List Op
  pub last : ℕ

-- the label of statement j
abbrev pub label : ℕ → List ℕ
label j = codes "L" ++ decimal j

-- the word at a becomes c; a is drawn at x
abbrev pub store_constant : ℕ → ℕ → Drawn
store_constant x y = record { ops = Adl (place x) ∷ Con (constant y) ∷ Sto ∷ []; last = y }

-- the word at a grows by c
abbrev pub add_constant : ℕ → ℕ → Drawn
add_constant x y = record {
  ops = Adl (place x) ∷ Adl (place x) ∷ Lod ∷ Con (constant y) ∷ Bin Add ∷ Sto ∷ [];
  last = y;
}

-- the word at a becomes the sum of those at b and d
abbrev pub add_places : ℕ → ℕ → ℕ → Drawn
add_places x y z = record {
  ops = Adl (place x) ∷ Adl (place y) ∷ Lod ∷ Adl (place z) ∷ Lod ∷ Bin Add ∷ Sto ∷ [];
  last = z;
}

-- the word at b becomes 1, unless the word at a is c
abbrev pub skip_equal : ℕ → ℕ → ℕ → ℕ → Drawn
skip_equal j x y z = record {
  ops = Adl (place x) ∷ Lod ∷ Con (constant z) ∷ Br Eq (label j) ∷ Adl (place y) ∷ Con 1 ∷ Sto ∷ Lab (label j) ∷ [];
  last = z;
}

-- statement j, whose kind is drawn at x; y, z and w are the words behind it
abbrev pub by_kind : ℕ → ℕ → ℕ → ℕ → ℕ → Drawn
by_kind j x y z w = if kind x == 0 then store_constant y z
    else (if kind x == 1 then add_constant y z
    else (if kind x == 2 then add_places y z w
    else skip_equal j y z w))

-- statement j from x on
abbrev pub statement : ℕ → ℕ → Drawn
statement j x = by_kind j (step x) (step (step x)) (step (step (step x))) (step (step (step (step x))))

-- the operations of so many statements from statement j on
unfoldable pub statements : ℕ → ℕ → ℕ → List Op
statements zero j x = []
statements (suc n) j x = (statement j x).ops ++ statements n (j + 1) (statement j x).last

-- unit k of a seed: eight statements, and the word at 1 as the result
abbrev pub sample : ℕ → ℕ → StackUnit
sample seed k = record {
  name = codes "u" ++ decimal k;
  ops = statements 8 0 (start seed k) ++ Adl 1 ∷ Lod ∷ Ret ∷ [];
}
