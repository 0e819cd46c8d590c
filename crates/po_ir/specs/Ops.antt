-- What an operation does to the stack, to the block and to the labels, and what the operations so far say of the next
-- one.
use Rattle.std.specs.Prelude.{ℕ, ◌+◌, ◌-◌, List, [], ◌∷◌, ◌++◌, Bool, true, false, if◌then◌else◌}
use Rattle.std.specs.List.{flat_map}
use Rattle.po_ir.specs.declared.unit.Op.{Op}
use Rattle.po_ir.specs.declared.unit.Op.TheVariants as op
use Rattle.po_ir.specs.declared.unit.Key.{Key}
use Rattle.po_ir.specs.declared.unit.Key.TheVariants as key

-- what the first word of its line says
-- ORDER: operations
abbrev pub key_of : Op → Key
key_of (op.Con n) = key.Con
key_of (op.Adl n) = key.Adl
key_of (op.Adg s) = key.Adg
key_of op.Lod = key.Lod
key_of op.Sto = key.Sto
key_of (op.Bin o) = key.Bin o
key_of (op.Un o) = key.Un o
key_of op.Dup = key.Dup
key_of op.Pop = key.Pop
key_of (op.Lab l) = key.Lab
key_of (op.Jmp l) = key.Jmp
key_of (op.Br r l) = key.Br r
key_of (op.Arg k) = key.Arg
key_of (op.Call f n) = key.Call
key_of op.Ret = key.Ret

-- One operation: how many values it takes and puts back, whether a block ends or begins there (the stack is then
-- empty, but for what it takes), whether what stands behind it is not reached from it, the labels that it names and
-- goes to, the arguments that it sets, and how many have to be set before it in its block.
pub record Facts : Type 0 where
  pub pops : ℕ
  pub pushes : ℕ
  pub boundary : Bool
  pub leaves : Bool
  pub label : List (List ℕ)
  pub target : List (List ℕ)
  pub arg : List ℕ
  pub wanted : ℕ

abbrev pub row : ℕ → ℕ → Bool → Bool → List (List ℕ) → List (List ℕ) → List ℕ → ℕ → Facts
row pops pushes boundary leaves label target arg wanted =
    record {
      pops = pops;
      pushes = pushes;
      boundary = boundary;
      leaves = leaves;
      label = label;
      target = target;
      arg = arg;
      wanted = wanted;
    }

-- A row: pops, pushes, boundary, leaves, label, target, arg, wanted. `dup` takes one, and puts it back twice.
-- ORDER: operations
abbrev pub facts : Op → Facts
facts (op.Con n) = row 0 1 false false [] [] [] 0
facts (op.Adl n) = row 0 1 false false [] [] [] 0
facts (op.Adg s) = row 0 1 false false [] [] [] 0
facts op.Lod = row 1 1 false false [] [] [] 0
facts op.Sto = row 2 0 false false [] [] [] 0
facts (op.Bin o) = row 2 1 false false [] [] [] 0
facts (op.Un o) = row 1 1 false false [] [] [] 0
facts op.Dup = row 1 2 false false [] [] [] 0
facts op.Pop = row 1 0 false false [] [] [] 0
facts (op.Lab l) = row 0 0 true false (l ∷ []) [] [] 0
facts (op.Jmp l) = row 0 0 true true [] (l ∷ []) [] 0
facts (op.Br r l) = row 2 0 true false [] (l ∷ []) [] 0
facts (op.Arg k) = row 1 0 false false [] [] (k ∷ []) 0
facts (op.Call f n) = row 0 1 true false [] [] [] n
facts op.Ret = row 1 0 true true [] [] [] 0

abbrev pub pops : Op → ℕ
pops o = (facts o).pops

abbrev pub pushes : Op → ℕ
pushes o = (facts o).pushes

abbrev pub is_boundary : Op → Bool
is_boundary o = (facts o).boundary

abbrev pub leaves : Op → Bool
leaves o = (facts o).leaves

abbrev pub label_in : Op → List (List ℕ)
label_in o = (facts o).label

abbrev pub target_in : Op → List (List ℕ)
target_in o = (facts o).target

abbrev pub arg_in : Op → List ℕ
arg_in o = (facts o).arg

abbrev pub args_wanted : Op → ℕ
args_wanted o = (facts o).wanted

-- what it makes of so many values on the stack
abbrev pub depth_by : ℕ → Op → ℕ
depth_by depth o = depth - pops o + pushes o

abbrev pub depth_from : ℕ → List Op → ℕ
depth_from depth [] = depth
depth_from depth (o ∷ os) = depth_from (depth_by depth o) os

-- how many values lie on the stack behind these operations
abbrev pub depth_of : List Op → ℕ
depth_of os = depth_from 0 os

-- the labels of these operations
abbrev pub labels_of : List Op → List (List ℕ)
labels_of os = flat_map label_in os

abbrev pub args_by : List ℕ → Op → List ℕ
args_by args o = if is_boundary o then [] else args ++ arg_in o

abbrev pub args_from : List ℕ → List Op → List ℕ
args_from args [] = args
args_from args (o ∷ os) = args_from (args_by args o) os

-- the arguments that are set in the block that has begun
abbrev pub args_of : List Op → List ℕ
args_of os = args_from [] os

abbrev pub ends_from : Bool → List Op → Bool
ends_from left [] = left
ends_from left (o ∷ os) = ends_from (leaves o) os

-- there is a last operation, and what stands behind it is not reached from it
abbrev pub ends_well : List Op → Bool
ends_well os = ends_from false os
