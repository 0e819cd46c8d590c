-- What becomes of a miss that is posted, and how a count rises.
use Rattle.std.specs.Prelude.{ℕ, ◌+◌, ◌-◌, ◌^◌, ◌≤◌, min, List, [], ◌∷◌, ◌++◌, ⊤}
use Rattle.po_model.specs.Pairs.{PlainPair}
use Rattle.po_rule.specs.declared.post.Posted.{Posted}
use Rattle.po_rule.specs.declared.post.Posted.TheVariants.{Taken, Dropped}

-- a count has risen by so many at least, or stands at the last value of a counter of 64 bits
abbrev pub RoseBy : ℕ → ℕ → ℕ → Type 0
RoseBy n before now = min (before + n) (2 ^ 64 - 1) ≤ now

-- what a post took: a pair that was taken stands last
abbrev pub with_posted : Posted → PlainPair → List PlainPair → List PlainPair
with_posted Taken p ps = ps ++ p ∷ []
with_posted Dropped p ps = ps

-- a pair is dropped only where the post was full, which it counts
abbrev pub HasCause : Posted → ℕ → ℕ → Type 0
HasCause Taken before now = ⊤
HasCause Dropped before now = RoseBy 1 before now
