use Rattle.po_ir.proofs.TextLaws.{units_found, units_again}
use Rattle.po_ir.proofs.laws.units_are_written.Goals as goal

pub returns : goal.returns
returns c = λ ls line us. (units_found ls line us, units_again ls line us)
