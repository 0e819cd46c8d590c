-- What the stack has to have before operations.
use Rattle.std.specs.Prelude.{◌≡◌, ℕ, ◌≤◌, true, List, [], ◌∷◌, ⊤}
use Rattle.po_ir.specs.declared.unit.Op.{Op}
use Rattle.po_ir.specs.Ops.{pops, is_boundary, depth_by}

-- where so many values lie on the stack, each operation finds what it takes, and nothing else where a block begins or
-- ends
abbrev pub Fits : ℕ → List Op → Type 0
Fits depth [] = ⊤
Fits depth (o ∷ os) = (pops o ≤ depth) × (is_boundary o ≡ true → depth ≡ pops o) × Fits (depth_by depth o) os
