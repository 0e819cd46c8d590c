use Rattle.std.proofs.Common.{◌≡◌}
use Rattle.po_pattern.specs.Terms.{steps}
use Rattle.po_pattern.specs.Readings.{reading_of}
use Rattle.po_pattern.proofs.whole.read_parts.Given as goal

abbrev pub invariant-parts : goal.invariant-parts
invariant-parts l = steps l.left (reading_of l.reading) ≡ steps l.fn.count (reading_of l.fn.first)

abbrev pub decreases-parts : goal.decreases-parts
decreases-parts l = l.left
