-- A table of rules as plain data.
use Rattle.std.specs.Prelude.{◌≡◌, ◌≢◌, List, map, slice_get, Some, ⊤}
use Rattle.std.specs.declared.alloc.Global.{Global}
use Rattle.std.specs.declared.sync.Arc.{Arc}
use Rattle.std.specs.Arc.{arc_value}
use Rattle.po_model.specs.declared.machine.Machine.{Machine}
use Rattle.po_model.specs.declared.rule.Rule.{Rule}
use Rattle.po_model.specs.Holed.{PlainRule, rule_of}
use Rattle.po_model.specs.Lookups.{AreCanonical, AreDistinct}
use Rattle.po_rule.specs.declared.refusal.AddRefusal.{AddRefusal}
use Rattle.po_rule.specs.declared.refusal.AddRefusal.TheVariants as refusal

-- the rules of a table, in the order in which they were added
abbrev pub rules_of : Machine × List Rule → List PlainRule
rules_of t = map rule_of t.1

-- each rule of a table is canonical, and stands there once
pub record IsTable (t : Machine × List Rule) : Type 0 where
  pub canonical : AreCanonical t.0 (rules_of t)
  pub distinct : AreDistinct (rules_of t)

-- shared rules as plain ones
abbrev pub shared : List (Arc Rule Global) → List PlainRule
shared rs = map (λ r. rule_of (arc_value r)) rs

-- the rule is one of these, at this place
abbrev pub IsKnown : List PlainRule → PlainRule → AddRefusal → Type 0
IsKnown rs r (refusal.Known place) = slice_get rs place ≡ Some r
IsKnown rs r refusal.OtherMachine = ⊥
IsKnown rs r refusal.OutOfMemory = ⊥
