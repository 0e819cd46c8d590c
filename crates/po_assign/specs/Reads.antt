-- The last reads of the virtual registers, as the code keeps them.
use Rattle.std.specs.Prelude.{ℕ, List, slice_get, unwrap_or}

-- the last read of a register so far, and 0 where there is none
abbrev pub read_at : List ℕ → ℕ → ℕ
read_at m v = unwrap_or (slice_get m v) 0
