use Rattle.po_slow.proofs.OnlyOne.{make_one_code}
use Rattle.po_slow.proofs.laws.passes_make_one_code.Goals as goal

pub returns : goal.returns
returns c = make_one_code
