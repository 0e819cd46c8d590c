use Rattle.po_ir.proofs.PrintLaws.{printed_unit_again}
use Rattle.po_ir.proofs.laws.printed_units_are_read.Goals as goal

pub returns : goal.returns
returns c = λ u line h fits. printed_unit_again u line h fits
