-- The texts of rules: sorted by bytes, each once.
use Rattle.std.specs.Prelude.{ℕ, ◌≡◌, ◌+◌, List, [], ◌∷◌, map, All, Contains}
use Rattle.std.specs.Ordering.{nat_cmp}
use Rattle.std.specs.Cmp.Lexicographic.{slice_cmp}
use Rattle.std.specs.List.Sorted.{IsStrictlySortedBy}
use mathlib.Core.Logic.{◌⊎◌}
use Rattle.std.specs.declared.alloc.Global.{Global}
use Rattle.std.specs.declared.vec.Vec.{Vec}
use Rattle.po_model.specs.declared.machine.Machine.{Machine}
use Rattle.po_model.specs.Generalised.{generalised}
use Rattle.po_model.specs.Holed.{PlainRule}
use Rattle.po_model.specs.Lookups.{NoneFits, FitsRule}
use Rattle.po_model.specs.Pairs.{PlainPair}
use Rattle.po_model.specs.RuleText.{rule_text}

abbrev pub texts_of : List (Vec ℕ Global) → List (List ℕ)
texts_of ts = map (λ t. t.items) ts

-- these texts sorted by bytes, each once
pub record AreSorted (wanted texts : List (List ℕ)) : Type 0 where
  pub sorted : IsStrictlySortedBy (slice_cmp nat_cmp) texts
  pub each : All (Contains wanted) texts
  pub all : All (Contains texts) wanted

-- the texts of the rules of pairs
abbrev pub rule_texts : Machine → List PlainPair → List (List ℕ)
rule_texts m ps = map (λ p. rule_text (generalised m p)) ps

-- so many of these pairs have no rule in the list
abbrev pub IsUnruled : List PlainRule → List PlainPair → ℕ → Type 0
IsUnruled rs [] n = n ≡ 0
IsUnruled rs (p ∷ ps) n =
    ((k : ℕ) × NoneFits rs p × IsUnruled rs ps k × (n ≡ k + 1))
    ⊎ ((r : PlainRule) × FitsRule rs p r × IsUnruled rs ps n)
