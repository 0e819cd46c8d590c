-- What a text says: a description and the units behind it, or its first fault.
use Rattle.std.specs.Prelude.{ℕ, ◌≡◌, ◌≤◌, List, length, All, Result, Ok}
use Rattle.po_lines.specs.Faults.{◌>>=◌, TextFault}
use Rattle.po_ir.specs.declared.unit.Unit.{Unit as StackUnit}
use Rattle.po_ir.specs.Reading.{units_behind}
use Rattle.po_ir.specs.Units.{IsUnit}
use Rattle.po_model.specs.declared.machine.Machine.{Machine}
use Rattle.po_model.specs.Machines.{IsMachine}
use Rattle.po_mdread.specs.Reading.{machine_in}
use Rattle.po_compile.specs.declared.input.Program.{Program as ReadProgram}

-- a description and units of stack code
pub record Program : Type 0 where
  pub machine : Machine
  pub units : List StackUnit

abbrev pub program_of : ReadProgram → Program
program_of p = record { machine = p.machine; units = p.units }

-- the units stand behind the description; the first fault stays
unfoldable pub input_in : List ℕ → Result Program TextFault
input_in text = do
  described ← machine_in text
  units ← units_behind described.1 text
  Ok (record { machine = described.0; units = units })

abbrev pub IsInput : List ℕ → Machine → List StackUnit → Type 0
IsInput text m us = input_in text ≡ Ok (record { machine = m; units = us })

-- what the language allows
pub record IsProgram (p : ReadProgram) : Type 0 where
  pub machine : IsMachine p.machine
  pub units : All IsUnit p.units
  pub few : length p.units ≤ 65536
