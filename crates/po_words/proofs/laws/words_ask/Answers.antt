use Rattle.po_words.proofs.Examples.{words_ask}
use Rattle.po_words.proofs.laws.words_ask.Goals as goal

pub returns : goal.returns
returns c = words_ask
