-- Laws of reading and printing.
use Rattle.std.specs.Prelude.{◌≡◌, ◌↔◌, ℕ, ◌≤◌, List, [], ◌∷◌, length, Ok}
use Rattle.po_lines.specs.Lines.{Numbered}
use Rattle.po_ir.specs.declared.unit.Unit.{Unit as StackUnit}
use Rattle.po_ir.specs.Grammar.{IsUnits}
use Rattle.po_ir.specs.Printing.{unit_text}
use Rattle.po_ir.specs.Reading.{units_in, units_behind}
use Rattle.po_ir.specs.Units.{IsUnit}

-- lines are read as units exactly where they write these units, and the language allows them
abbrev pub ReadsWhatIsWritten : Type 0
ReadsWhatIsWritten = (ls : List Numbered) (line : ℕ) (us : List StackUnit) → (units_in ls line ≡ Ok us) ↔ IsUnits ls us

-- the text of a unit is read as that unit, where it isn't too long
abbrev pub ReadsPrinted : Type 0
ReadsPrinted =
    (u : StackUnit) (line : ℕ) → IsUnit u → length (unit_text u) ≤ 4194304
    → units_behind (record { offset = 0; line = line }) (unit_text u) ≡ Ok (u ∷ [])
