-- What one more operation changes in the properties of those so far.
use Rattle.std.proofs.Common.{◌≡◌, ℕ, List, [], ◌∷◌, ◌++◌, refl, ap, ◌∙◌, sym, Bool, append_assoc, map}
use Rattle.po_ir.specs.declared.unit.Op.{Op}
use Rattle.po_ir.specs.declared.unit.Unit.{Unit}
use Rattle.po_ir.specs.Reading.{unit_name}
use Rattle.po_ir.specs.Ops.{depth_by, depth_from, depth_of, ends_from, ends_well, leaves, label_in, labels_of, args_by}
use Rattle.po_ir.specs.Ops.{args_from, args_of}

depth_more : (d : ℕ) (os : List Op) (o : Op) → depth_from d (os ++ o ∷ []) ≡ depth_by (depth_from d os) o
depth_more d [] o = refl
depth_more d (p ∷ os) o = depth_more (depth_by d p) os o

pub depth_next : (os : List Op) (o : Op) → depth_of (os ++ o ∷ []) ≡ depth_by (depth_of os) o
depth_next os o = depth_more 0 os o

args_more : (args : List ℕ) (os : List Op) (o : Op) → args_from args (os ++ o ∷ []) ≡ args_by (args_from args os) o
args_more args [] o = refl
args_more args (p ∷ os) o = args_more (args_by args p) os o

pub args_next : (os : List Op) (o : Op) → args_of (os ++ o ∷ []) ≡ args_by (args_of os) o
args_next os o = args_more [] os o

ends_more : (t : Bool) (os : List Op) (o : Op) → ends_from t (os ++ o ∷ []) ≡ leaves o
ends_more t [] o = refl
ends_more t (p ∷ os) o = ends_more (leaves p) os o

pub ends_next : (os : List Op) (o : Op) → ends_well (os ++ o ∷ []) ≡ leaves o
ends_next os o = ends_more _ os o

pub append_none : (xs : List (List ℕ)) → xs ++ [] ≡ xs
append_none [] = refl
append_none (x ∷ xs) = ap (λ (r : List (List ℕ)). x ∷ r) (append_none xs)

pub labels_next : (os : List Op) (o : Op) → labels_of (os ++ o ∷ []) ≡ labels_of os ++ label_in o
labels_next [] o = append_none (label_in o)
labels_next (p ∷ os) o =
    ap (λ (r : List (List ℕ)). label_in p ++ r) (labels_next os o)
    ∙ sym (append_assoc (label_in p) (labels_of os) (label_in o))

pub map_next : (us : List Unit) (u : Unit) → map unit_name (us ++ u ∷ []) ≡ map unit_name us ++ u.name ∷ []
map_next [] u = refl
map_next (v ∷ us) u = ap (λ (r : List (List ℕ)). v.name ∷ r) (map_next us u)

-- what is kept beside the operations, after one more
pub ruleset one_more_op = (depth_next, ends_next, labels_next, args_next)

-- what is kept beside the units, after one more
pub ruleset one_more_unit = (map_next, append_none)
