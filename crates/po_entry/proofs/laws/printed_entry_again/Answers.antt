use Rattle.po_entry.proofs.ReadsLine.{entry_again}
use Rattle.po_entry.proofs.laws.printed_entry_again.Goals as goal

pub returns : goal.returns
returns c = λ e h. entry_again e h
