-- What a list of rules says of a pair.
use Rattle.std.specs.Prelude.{◌≢◌, List, All, AllPairs, Contains, Option, Some, None}
use Rattle.po_model.specs.declared.machine.Machine.{Machine}
use Rattle.po_model.specs.Pairs.{PlainPair}
use Rattle.po_model.specs.Combined.{Answer}
use Rattle.po_model.specs.Holed.{PlainRule}
use Rattle.po_model.specs.Shape.{pair_values}
use Rattle.po_model.specs.Put.{put}
use Rattle.po_model.specs.Agrees.{Instance}
use Rattle.po_model.specs.Canonical.{Canonical}

-- what a rule says of an instance
abbrev pub gives : PlainRule → PlainPair → Answer
gives r p = put (pair_values p) r.result

-- rules that are all canonical
abbrev pub AreCanonical : Machine → List PlainRule → Type 0
AreCanonical m rs = All (Canonical m) rs

-- rules of which no two are the same
abbrev pub AreDistinct : List PlainRule → Type 0
AreDistinct rs = AllPairs (λ r s. r ≢ s) rs

-- no rule of the list has the pair as an instance
abbrev pub NoneFits : List PlainRule → PlainPair → Type 0
NoneFits rs p = All (λ r. Instance r p → ⊥) rs

-- a rule of the list that has the pair as an instance
pub record FitsRule (rs : List PlainRule) (p : PlainPair) (r : PlainRule) : Type 0 where
  pub listed : Contains rs r
  pub instance : Instance r p

-- what the list has for a pair: such a rule, or none
abbrev pub HasFor : List PlainRule → PlainPair → Option PlainRule → Type 0
HasFor rs p None = NoneFits rs p
HasFor rs p (Some r) = FitsRule rs p r
