-- What stands behind the assembly: in `opt` the rules of all pairs that the passes try.
use Rattle.std.specs.Prelude.{ℕ, ◌≡◌, List, []}
use Rattle.po_model.specs.declared.machine.Machine.{Machine}
use Rattle.po_model.specs.UnitCodes.{PlainUnit}
use Rattle.po_settle.specs.Lines.{AreRulesOf}
use Rattle.po_compile.specs.declared.mode.Mode.{Mode}
use Rattle.po_compile.specs.declared.mode.Mode.TheVariants.{Naive, Slow, Opt}

-- what stands behind the assembly in a mode
abbrev pub AreRulesIn : Mode → Machine → List PlainUnit → List ℕ → Type 0
AreRulesIn Naive m us rules = rules ≡ []
AreRulesIn Slow m us rules = rules ≡ []
AreRulesIn Opt m us rules = AreRulesOf m us rules
