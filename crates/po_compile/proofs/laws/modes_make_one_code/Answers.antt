use Rattle.po_compile.proofs.OnlyOne.{one_code}
use Rattle.po_compile.proofs.laws.modes_make_one_code.Goals as goal

pub returns : goal.returns
returns c = one_code
