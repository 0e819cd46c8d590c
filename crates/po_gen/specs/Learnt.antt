-- Which rules a list has.
use Rattle.std.specs.Prelude.{◌≡◌, List, [], ◌∷◌, ◌++◌, map, All, Contains}
use mathlib.Core.Logic.{◌⊎◌}
use Rattle.po_model.specs.declared.machine.Machine.{Machine}
use Rattle.po_model.specs.Generalised.{generalised}
use Rattle.po_model.specs.Holed.{PlainRule}
use Rattle.po_model.specs.Pairs.{PlainPair}

-- the rules of pairs
abbrev pub rules_for : Machine → List PlainPair → List PlainRule
rules_for m ps = map (generalised m) ps

-- the list has the rule of each of these pairs, and no other
pub record HasRules (m : Machine) (ps : List PlainPair) (rs : List PlainRule) : Type 0 where
  pub each : All (Contains rs) (rules_for m ps)
  pub only : All (Contains (rules_for m ps)) rs

-- beside those that it has, a list gets the rules of these pairs
abbrev pub Learns : Machine → List PlainRule → List PlainRule → List PlainPair → Type 0
Learns m old new pairs = (ps : List PlainPair) → HasRules m ps old → HasRules m (ps ++ pairs) new

-- a rule is put behind a list that doesn't have it
abbrev pub PutsIn : List PlainRule → PlainRule → List PlainRule → Type 0
PutsIn rs r after = ((after ≡ rs) × Contains rs r) ⊎ (after ≡ rs ++ r ∷ [])
