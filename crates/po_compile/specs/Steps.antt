-- What each step over all units gives.
use Rattle.std.specs.Prelude.{◌≡◌, List, length, map, All, Result, Ok, Err, ⊤}
use Rattle.std.specs.declared.vec.Vec.{Vec}
use Rattle.std.specs.declared.alloc.Global.{Global}
use Rattle.po_model.specs.declared.code.UnitCode.{UnitCode}
use Rattle.po_model.specs.declared.machine.Machine.{Machine}
use Rattle.po_model.specs.UnitCodes.{PlainUnit, unit_of, flat}
use Rattle.po_model.specs.Placement.{registers}
use Rattle.po_model.specs.Fitted.{IsUnrecognised}
use Rattle.po_assign.specs.declared.answer.Placed.{Placed}
use Rattle.po_compile.specs.declared.refusal.Refusal.{Refusal}
use Rattle.po_compile.specs.declared.refusal.Refusal.TheVariants as refusal
use Rattle.po_compile.specs.Output.{FirstBad, AllFit, HasRoom, IsShort}

abbrev pub units_of : List UnitCode → List PlainUnit
units_of codes = map unit_of codes

abbrev pub placed_of : List Placed → List PlainUnit
placed_of all = map (λ p. unit_of p.unit) all

-- its virtual registers have the lowest free machine registers
abbrev pub IsPlaced : Machine → Placed → Type 0
IsPlaced m p = p.regs.items ≡ registers (length m.regs) (flat (unit_of p.unit).code)

abbrev pub ArePlaced : Machine → List Placed → Type 0
ArePlaced m all = All (IsPlaced m) all

-- every instruction fits, or one is the first that doesn't
abbrev pub Checked : Machine → List PlainUnit → Result ⊤ Refusal → Type 0
Checked m us (Ok done) = All (AllFit m) us
Checked m us (Err (refusal.BadText line col kind)) = ⊥
Checked m us (Err (refusal.Unrecognised unit block index)) =
    FirstBad (AllFit m) (λ u. IsUnrecognised u.code m block index) us unit
Checked m us (Err (refusal.TooFew unit point needed)) = ⊥
Checked m us (Err refusal.OutOfMemory) = ⊤

-- every value has its register, or a point is the first with too few
abbrev pub Assigned : Machine → List PlainUnit → Result (Vec Placed Global) Refusal → Type 0
Assigned m us (Ok all) = (placed_of all.items ≡ us) × ArePlaced m all.items × All (HasRoom m) us
Assigned m us (Err (refusal.BadText line col kind)) = ⊥
Assigned m us (Err (refusal.Unrecognised unit block index)) = ⊥
Assigned m us (Err (refusal.TooFew unit point needed)) = FirstBad (HasRoom m) (IsShort m point needed) us unit
Assigned m us (Err refusal.OutOfMemory) = ⊤

-- a refusal is want of memory
abbrev pub IsMemory : {A : Type 0} → Result A Refusal → Type 0
IsMemory (Ok x) = ⊤
IsMemory (Err r) = r ≡ refusal.OutOfMemory
