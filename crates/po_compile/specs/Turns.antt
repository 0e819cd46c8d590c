-- What has become of the units so far, where each goes from its operations to its assembly before the next one begins.
use Rattle.std.specs.Prelude.{ℕ, ◌≡◌, List, All, Option, Some, None, Result, Ok, Err, ⊤}
use Rattle.std.specs.List.{AllZip}
use Rattle.po_model.specs.declared.machine.Machine.{Machine}
use Rattle.po_model.specs.UnitCodes.{PlainUnit, IsUnitCode}
use Rattle.po_model.specs.Fitted.{IsUnrecognised}
use Rattle.po_recog.specs.Indexes.{IsIndexOf}
use Rattle.po_emit.specs.Templates.{AreTemplatesOf}
use Rattle.po_compile.specs.declared.compiled.Compiled.{Compiled}
use Rattle.po_compile.specs.declared.mode.Mode.{Mode}
use Rattle.po_compile.specs.declared.refusal.Refusal.{Refusal}
use Rattle.po_compile.specs.declared.refusal.Refusal.TheVariants as refusal
use Rattle.po_compile.specs.declared.target.Target.{Target}
use Rattle.po_compile.specs.declared.work.Crowd.{Crowd}
use Rattle.po_compile.specs.declared.work.Work.{Work}
use Rattle.po_compile.specs.Modes.{IsCodeIn}
use Rattle.po_compile.specs.Output.{FirstBad, AllFit, HasRoom, IsShort, AreAssembled}

-- the index and the lines are those of the machine
pub record IsTarget (t : Target) : Type 0 where
  pub index : IsIndexOf t.machine t.index
  pub templates : AreTemplatesOf t.machine t.templates

-- these codes are assembled, or this is the first crowd among them
abbrev pub Come : Machine → List PlainUnit → Option Crowd → List ℕ → Type 0
Come m made None out = All (HasRoom m) made × AreAssembled m made out
Come m made (Some c) out = FirstBad (HasRoom m) (IsShort m c.point c.needed) made c.unit

abbrev pub HaveCome : Machine → List PlainUnit → Work → Type 0
HaveCome m made w = Come m made w.crowd w.out.items

-- each instruction of these naive codes fits an entry, and the codes that the mode makes of them have come to this
pub record AreDone (mode : Mode) (m : Machine) (us : List PlainUnit) (w : Work) : Type 0 where
  pub fits : All (AllFit m) us
  pub formed : All IsUnitCode us
  pub made : List PlainUnit
  pub codes : AllZip (IsCodeIn mode m) us made
  pub come : HaveCome m made w

-- what a check of the unit of that number says
abbrev pub CheckedUnit : Machine → ℕ → PlainUnit → Result ⊤ Refusal → Type 0
CheckedUnit m n u (Ok done) = AllFit m u
CheckedUnit m n u (Err (refusal.BadText line col kind)) = ⊥
CheckedUnit m n u (Err (refusal.Unrecognised unit block index)) = (unit ≡ n) × IsUnrecognised u.code m block index
CheckedUnit m n u (Err (refusal.TooFew unit point needed)) = ⊥
CheckedUnit m n u (Err refusal.OutOfMemory) = ⊤

-- what is answered where the units have come to this: their assembly, or the crowd
abbrev pub Answered : {T : Type 0} → Option Crowd → List ℕ → Result (Compiled T) Refusal → Type 0
Answered None out (Ok c) = c.out.items ≡ out
Answered None out (Err r) = ⊥
Answered (Some c) out (Ok d) = ⊥
Answered (Some c) out (Err r) = r ≡ refusal.TooFew c.unit c.point c.needed

abbrev pub Outcome : {T : Type 0} → Work → Result (Compiled T) Refusal → Type 0
Outcome w r = Answered w.crowd w.out.items r
