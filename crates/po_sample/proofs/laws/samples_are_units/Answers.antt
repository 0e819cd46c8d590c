use Rattle.po_sample.proofs.Samples.{samples_units}
use Rattle.po_sample.proofs.laws.samples_are_units.Goals as goal

pub returns : goal.returns
returns c = samples_units
