-- The bits of a word, each by its place, counted from 0 for the lowest.
use Rattle.std.specs.Prelude.{ℕ, ◌/◌, ◌%◌, ◌^◌, ◌==◌, Bool, true, false, not}

-- is the bit of a at place i a one
abbrev pub bit : ℕ → ℕ → Bool
bit a i = (a / 2 ^ i) % 2 == 1

-- does exactly one of the two hold
abbrev pub exactly_one : Bool → Bool → Bool
exactly_one true q = not q
exactly_one false q = q
