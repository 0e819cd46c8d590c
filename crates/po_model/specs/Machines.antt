-- The machines that a description may tell of.
use Rattle.std.specs.Prelude.{◌≡◌, ◌≢◌, ◌≤◌, ℕ, List, ◌∷◌, ◌++◌, length, All, AllPairs, IsTrue}
use Rattle.po_name.specs.Names.{is_name}
use Rattle.po_model.specs.declared.machine.Machine.{Machine}
use Rattle.po_model.specs.Entries.{IsEntry}

-- the names of its registers: those of the frame, the result and the arguments, and then the others
abbrev pub register_names : Machine → List (List ℕ)
register_names m = m.frame ∷ m.result ∷ (m.args ++ m.regs)

pub record IsMachine (m : Machine) : Type 0 where
  pub name : IsTrue (is_name m.name)
  pub registers : All (λ n. IsTrue (is_name n)) (register_names m)
  pub differ : AllPairs (λ n o. n ≢ o) (register_names m)
  pub four : length m.args ≡ 4
  pub some : 1 ≤ length m.regs
  pub few : length m.regs ≤ 64
  pub entries : length m.entries ≤ 512
  pub each : All IsEntry m.entries
