-- What a unit's operations say of the stack.
use Rattle.std.proofs.Common.{◌≡◌, ℕ, ◌≤◌, List, [], ◌∷◌, ◌++◌, refl, subst, Bool, true, false, arith}
use Rattle.std.specs.Prelude.{None, Some, Option, nat_lt, ◌&&◌, if◌then◌else◌}
use Rattle.std.proofs.lemmas.Bool.{ltb-false}
use Rattle.po_lines.specs.declared.fault.LineFault.{LineFault}
use Rattle.po_ir.specs.declared.unit.Op.{Op}
use Rattle.po_ir.specs.declared.unit.Unit.{Unit as StackUnit}
use Rattle.po_ir.specs.Ops.{pops, is_boundary, depth_by, depth_from, depth_of}
use Rattle.po_ir.specs.Faults.{decided}
use Rattle.po_ir.specs.Units.{Follow, IsUnit}
use Rattle.po_expand.specs.Fits.{Fits}

depth_more : (d : ℕ) (os : List Op) (o : Op) → depth_from d (os ++ o ∷ []) ≡ depth_by (depth_from d os) o
depth_more d [] o = refl
depth_more d (p ∷ os) o = depth_more (depth_by d p) os o

-- a choice without a fault
no_fault : (b : Bool) (x : LineFault) (r : Option LineFault) → (if b then Some x else r) ≡ None
    → (b ≡ false) × (r ≡ None)
no_fault true x r e = absurd (grind arith)
no_fault false x r e = (refl, e)

split_and : (a b : Bool) → a && b ≡ false → a ≡ true → b ≡ false
split_and true b e f = e
split_and false b e f = absurd (grind arith)

same_depth : (a b : ℕ) → a ≤ b → b ≤ a → b ≡ a
same_depth a b h k = omega (arith, h, k)

allowed : (before : List Op) (o : Op) → decided before o 1 ≡ None
    → (pops o ≤ depth_of before) × (is_boundary o ≡ true → depth_of before ≡ pops o)
allowed before o e =
    let labels = no_fault _ _ _ e in
    let values = no_fault _ _ _ labels.1 in
    let many = no_fault _ _ _ values.1 in
    let boundary = no_fault _ _ _ many.1 in
    let enough : pops o ≤ depth_of before = ltb-false (depth_of before) (pops o) values.0 in (
      enough,
      λ b. same_depth (pops o) (depth_of before) enough
          (ltb-false (pops o) (depth_of before)
          (split_and (is_boundary o) (nat_lt (pops o) (depth_of before)) boundary.0 b)),
    )

follow_fits : (before os : List Op) → Follow before os → Fits (depth_of before) os
follow_fits before [] f = tt
follow_fits before (o ∷ os) f =
    let here = allowed before o f.0 in
    (here.0, here.1, subst (λ d. Fits d os) (depth_more 0 before o) (follow_fits (before ++ o ∷ []) os f.1))

pub unit_fits : (u : StackUnit) → IsUnit u → Fits 0 u.ops
unit_fits u h = follow_fits [] u.ops h.follow
