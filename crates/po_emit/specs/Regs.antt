-- The machine registers of the virtual registers, as the code keeps them.
use Rattle.std.specs.Prelude.{ℕ, List, slice_get, unwrap_or}

-- the machine register of a virtual register, and 0 where it has none
abbrev pub machine_at : List ℕ → ℕ → ℕ
machine_at regs v = unwrap_or (slice_get regs v) 0
