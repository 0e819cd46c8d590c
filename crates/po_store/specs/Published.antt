-- Which lists of rules are published, and how the list grows by a rule that is learned.
use Rattle.std.specs.Prelude.{◌≡◌, ◌≢◌, ◌⊎◌, ℕ, All, List, [], ◌∷◌, ◌++◌, length, map, slice_get, Some}
use Rattle.po_model.specs.declared.machine.Machine.{Machine}
use Rattle.po_model.specs.declared.rule.Rule.{Rule}
use Rattle.po_model.specs.Holed.{PlainRule, rule_of}
use Rattle.po_model.specs.Lookups.{AreCanonical, AreDistinct}
use Rattle.po_model.specs.Learning.{LearnsTo}

-- the rules as plain data
abbrev pub plain : List Rule → List PlainRule
plain rules = map rule_of rules

-- rules that are all canonical for the machine, no two of them the same
pub record AreGood (m : Machine) (rules : List PlainRule) : Type 0 where
  pub canonical : AreCanonical m rules
  pub distinct : AreDistinct rules

-- the rule stands at a place: it stood there before; or it was none of the others and was put behind them
abbrev pub StandsAt : List PlainRule → PlainRule → ℕ → List PlainRule → Type 0
StandsAt old r place new =
    ((new ≡ old) × (slice_get old place ≡ Some r))
    ⊎ ((new ≡ old ++ r ∷ []) × (place ≡ length old) × All (λ s. s ≢ r) old)

-- a rule is learned with nothing pending before, and what is pending then is published
pub record Publishes (old : List PlainRule) (r : PlainRule) (new : List PlainRule) : Type 0 where
  pub pending : List PlainRule
  pub learned : LearnsTo old [] r pending
  pub published : new ≡ old ++ pending
