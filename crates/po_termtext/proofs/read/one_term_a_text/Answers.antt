use Rattle.po_termtext.proofs.Whole.{text_of_one}
use Rattle.po_termtext.proofs.read.one_term_a_text.Goals as goal

pub returns : goal.returns
returns c = text_of_one
