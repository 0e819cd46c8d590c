-- What holds of every sample unit.
use Rattle.std.specs.Prelude.{ℕ, ◌<◌, ◌^◌}
use Rattle.po_ir.specs.Units.{IsUnit}
use Rattle.po_sample.specs.Sample.{sample}

-- the language allows it
abbrev pub SamplesAreUnits : Type 0
SamplesAreUnits = (seed k : ℕ) → k < 2 ^ 32 → IsUnit (sample seed k)
