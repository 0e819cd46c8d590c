-- Names in a list.
use Rattle.std.specs.Prelude.{ℕ, List, Bool, nat_eq}
use Rattle.std.specs.List.{list_any}
use Rattle.std.specs.Cmp.Lexicographic.{pointwise}

-- a name is in the list
abbrev pub has : List ℕ → List (List ℕ) → Bool
has name names = list_any (pointwise nat_eq name) names
