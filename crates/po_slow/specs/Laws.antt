-- Laws of slow combination.
use Rattle.po_model.specs.declared.machine.Machine.{Machine}
use Rattle.po_model.specs.Pairs.{PlainPair, WellFormedPair}
use Rattle.po_model.specs.Combined.{combination}
use Rattle.po_slow.specs.KeepsEffect.{KeepsEffect}

-- a combination keeps the effect, for every machine and every well-formed pair
abbrev pub CombinationKeepsEffect : Type 0
CombinationKeepsEffect = (m : Machine) (p : PlainPair) → WellFormedPair p → KeepsEffect m p (combination m p)
