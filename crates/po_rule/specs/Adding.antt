-- A rule that is put behind the rules of a table, and why it isn't.
use Rattle.std.specs.Prelude.{◌≡◌, ◌≢◌, ◌++◌, [], ◌∷◌, List, All, slice_get, Some, ⊤}
use Rattle.po_model.specs.declared.machine.Machine.{Machine}
use Rattle.po_model.specs.Holed.{PlainRule}
use Rattle.po_rule.specs.declared.refusal.AddRefusal.{AddRefusal}
use Rattle.po_rule.specs.declared.refusal.AddRefusal.TheVariants as refusal

-- the rule r for the machine n, which is none of the rules rs for the machine m, stands behind them
pub record Added (m : Machine) (rs : List PlainRule) (n : Machine) (r : PlainRule)
    (after : List PlainRule) : Type 0 where
  pub same : n ≡ m
  pub fresh : All (λ s. s ≢ r) rs
  pub behind : after ≡ rs ++ r ∷ []

-- why it isn't put there: the machines agree, and it is the rule at this place; or the machines differ
abbrev pub Refused : Machine → List PlainRule → Machine → PlainRule → AddRefusal → Type 0
Refused m rs n r (refusal.Known place) = (n ≡ m) × (slice_get rs place ≡ Some r)
Refused m rs n r refusal.OtherMachine = n ≢ m
Refused m rs n r refusal.OutOfMemory = ⊤
