-- Operations from a stack of some depth on, where these labels are in the unit and these arguments are set.
use Rattle.std.proofs.Common.{◌≡◌, ℕ, List, [], ◌∷◌, ◌++◌, None, refl, sym, subst, append_assoc, append-nil}
use Rattle.std.specs.Prelude.{⊤}
use Rattle.po_ir.specs.declared.unit.Op.{Op}
use Rattle.po_ir.specs.Faults.{op_fault}
use Rattle.po_ir.specs.Ops.{depth_by, depth_from, depth_of, label_in, labels_of, args_by, args_from, args_of}
use Rattle.po_ir.specs.Units.{Follow}
use Rattle.po_ir.proofs.Prefix.{depth_next, labels_next, args_next}

-- the labels behind an operation
abbrev pub joined : List (List ℕ) → List (List ℕ) → List (List ℕ)
joined ls [] = ls
joined ls (l ∷ more) = ls ++ l ∷ more

-- none of these operations decides a fault
abbrev pub Run : ℕ → List (List ℕ) → List ℕ → List Op → Type 0
Run depth ls args [] = ⊤
Run depth ls args (o ∷ os) = (op_fault depth ls args o 1 ≡ None)
    × Run (depth_by depth o) (joined ls (label_in o)) (args_by args o) os

joined_is : (ls more : List (List ℕ)) → joined ls more ≡ ls ++ more
joined_is ls [] = sym (append-nil ls)
joined_is ls (l ∷ more) = refl

pub follow_run : (before os : List Op) → Run (depth_of before) (labels_of before) (args_of before) os
    → Follow before os
follow_run before [] r = tt
follow_run before (o ∷ os) r =
    let same = joined_is (labels_of before) (label_in o) in (
      r.0,
      follow_run (before ++ o ∷ []) os (rw (depth_next before o, labels_next before o, args_next before o, ← same)
          r.1),
    )

pub run_append : (xs ys : List Op) (depth : ℕ) (ls : List (List ℕ)) (args : List ℕ) → Run depth ls args xs
    → Run (depth_from depth xs) (ls ++ labels_of xs) (args_from args xs) ys → Run depth ls args (xs ++ ys)
run_append [] ys depth ls args r s =
    subst (λ (ls : List (List ℕ)). Run depth ls args ys) (append-nil ls) s
run_append (o ∷ os) ys depth ls args r s =
    let same : ls ++ (label_in o ++ labels_of os) ≡ joined ls (label_in o) ++ labels_of os =
    rw (joined_is ls (label_in o)) (sym (append_assoc ls (label_in o) (labels_of os))) in (
      r.0,
      run_append os ys (depth_by depth o) (joined ls (label_in o)) (args_by args o) r.1
          (subst (λ (ls : List (List ℕ)). Run (depth_from (depth_by depth o) os) ls (args_from (args_by args o) os) ys)
          same s),
    )
