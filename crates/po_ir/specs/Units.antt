-- The units that the stack language allows.
use Rattle.std.specs.Prelude.{◌^◌, ◌<◌, ◌≤◌, ◌≡◌, List, [], ◌∷◌, ◌++◌, length, ◌≢◌, All, AllPairs, IsTrue, None, ⊤}
use Rattle.std.specs.List.{flat_map}
use Rattle.po_name.specs.Names.{is_name}
use Rattle.po_lines.specs.NameList.{has}
use Rattle.po_ir.specs.declared.unit.Op.{Op}
use Rattle.po_ir.specs.declared.unit.Op.TheVariants as op
use Rattle.po_ir.specs.declared.unit.Unit.{Unit as StackUnit}
use Rattle.po_ir.specs.Faults.{decided}
use Rattle.po_ir.specs.Ops.{labels_of, target_in, ends_well}

-- its number is in range and its name is a name
abbrev pub IsOp : Op → Type 0
IsOp (op.Con n) = n < 2 ^ 32
IsOp (op.Adl n) = n < 2 ^ 32
IsOp (op.Adg s) = IsTrue (is_name s)
IsOp op.Lod = ⊤
IsOp op.Sto = ⊤
IsOp (op.Bin o) = ⊤
IsOp (op.Un o) = ⊤
IsOp op.Dup = ⊤
IsOp op.Pop = ⊤
IsOp (op.Lab l) = IsTrue (is_name l)
IsOp (op.Jmp l) = IsTrue (is_name l)
IsOp (op.Br r l) = IsTrue (is_name l)
IsOp (op.Arg k) = k ≤ 3
IsOp (op.Call f n) = IsTrue (is_name f) × (n ≤ 4)
IsOp op.Ret = ⊤

-- each of these operations may follow those before it
abbrev pub Follow : List Op → List Op → Type 0
Follow before [] = ⊤
Follow before (o ∷ os) = (decided before o 1 ≡ None) × Follow (before ++ o ∷ []) os

pub record IsUnit (u : StackUnit) : Type 0 where
  pub name : IsTrue (is_name u.name)
  pub few : length u.ops ≤ 65536
  pub each : All IsOp u.ops
  -- the stack, the labels and the arguments of each operation
  pub follow : Follow [] u.ops
  -- each label that is gone to is there
  pub targets : All (λ l. IsTrue (has l (labels_of u.ops))) (flat_map target_in u.ops)
  -- the end isn't reached
  pub ends : IsTrue (ends_well u.ops)

-- no two units have one name
abbrev pub NamesDiffer : List StackUnit → Type 0
NamesDiffer us = AllPairs (λ u v. u.name ≢ v.name) us
