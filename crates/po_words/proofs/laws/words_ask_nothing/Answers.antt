use Rattle.po_words.proofs.Examples.{words_ask_nothing}
use Rattle.po_words.proofs.laws.words_ask_nothing.Goals as goal

pub returns : goal.returns
returns c = words_ask_nothing
