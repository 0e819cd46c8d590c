-- What stands between the text and the codes that its mode makes: the naive codes, each instruction recognised.
use Rattle.std.specs.Prelude.{ℕ, ◌≡◌, List, All, Err, ⊤}
use Rattle.po_lines.specs.Faults.{text_fault}
use Rattle.po_ir.specs.declared.unit.Unit.{Unit as StackUnit}
use Rattle.po_model.specs.declared.machine.Machine.{Machine}
use Rattle.po_model.specs.UnitCodes.{PlainUnit, IsUnitCode}
use Rattle.po_compile.specs.declared.refusal.Refusal.{Refusal}
use Rattle.po_compile.specs.declared.refusal.Refusal.TheVariants as refusal
use Rattle.po_compile.specs.Input.{input_in, IsInput}
use Rattle.po_compile.specs.Output.{AllFit, HasUnfit, naive_codes}

-- the text tells of this machine, and of units that have these naive codes, each instruction of which fits an entry
pub record IsBegun (text : List ℕ) (m : Machine) (naive : List PlainUnit) : Type 0 where
  pub units : List StackUnit
  pub input : IsInput text m units
  pub codes : naive ≡ naive_codes units
  pub fits : All (AllFit m) naive
  pub formed : All IsUnitCode naive

-- why a text comes to no such codes
abbrev pub IsUnbegun : List ℕ → Refusal → Type 0
IsUnbegun text (refusal.BadText line col kind) = input_in text ≡ Err (text_fault line col kind)
IsUnbegun text (refusal.Unrecognised unit block index) = HasUnfit text unit block index
IsUnbegun text (refusal.TooFew unit point needed) = ⊥
IsUnbegun text refusal.OutOfMemory = ⊤
