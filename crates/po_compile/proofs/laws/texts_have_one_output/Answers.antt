use Rattle.po_compile.proofs.OneOutput.{one_output}
use Rattle.po_compile.proofs.laws.texts_have_one_output.Goals as goal

pub returns : goal.returns
returns c = one_output
