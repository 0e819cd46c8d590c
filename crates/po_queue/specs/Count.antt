-- The rule of how many items were put.
use Rattle.std.specs.Prelude.{◌≡◌, ℕ, ◌+◌, ◌-◌, ◌≤◌, List, slice_index}
use Rattle.std.specs.List.{sum_by}
use mathlib.Core.Option.{some}
use lib.ListN.{get_elem?}
use Rattle.po_queue.specs.declared.count.Tally.{Tally}
use Rattle.po_queue.specs.Balance.{all_parts}

abbrev pub tally_of : ℕ → ℕ → ℕ → Tally
tally_of parts told seen = record { parts = parts; told = told; seen = seen }

-- no pass has seen more than the count, and one without a part has told of nothing
abbrev pub Fits : ℕ → Tally → Type 0
Fits n v = (v.seen ≤ n) × (v.parts ≡ 0 → v.told ≡ 0)

-- the count is what all passes told of
abbrev pub Counted : List ℕ → List Tally → Type 0
Counted words views =
    (sum_by (λ (v : Tally). v.parts) views ≡ all_parts)
    × (sum_by (λ (v : Tally). v.told) views ≡ slice_index words 0)
    × ((port : ℕ) (v : Tally) → get_elem? views port ≡ some v → Fits (slice_index words 0) v)

-- by how much the count rose was told
abbrev pub Told : Tally → List ℕ → List ℕ → Tally → Type 0
Told v x y w = w ≡ tally_of v.parts (v.told + (slice_index y 0 - slice_index x 0)) v.seen

-- the count was seen, which is no less than what was seen before
abbrev pub Seen : Tally → List ℕ → List ℕ → Tally → Type 0
Seen v x y w = (v.seen ≤ slice_index x 0) × (w ≡ tally_of v.parts v.told (slice_index x 0))

-- the count is no less than what was seen; and the pass with every part has told of all that was counted
abbrev pub Audited : Tally → List ℕ → List ℕ → Tally → Type 0
Audited v x y w =
    (w ≡ v) × (v.seen ≤ slice_index x 0) × (v.parts ≡ all_parts → v.told ≡ slice_index x 0)
