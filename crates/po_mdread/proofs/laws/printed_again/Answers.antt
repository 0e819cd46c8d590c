use Rattle.po_mdread.proofs.Printed.{printed_again}
use Rattle.po_mdread.proofs.laws.printed_again.Goals as goal

pub returns : goal.returns
returns c = λ m h. printed_again m h
