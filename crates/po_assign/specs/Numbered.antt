-- Lists in which each register's value stands at the place of the register's number.
use Rattle.std.specs.Prelude.{ℕ, List, slice_get, unwrap_or}

-- the value of a number, and 0 behind the end of the list
abbrev pub value_at : List ℕ → ℕ → ℕ
value_at values n = unwrap_or (slice_get values n) 0
