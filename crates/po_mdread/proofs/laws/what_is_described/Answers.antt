use Rattle.po_mdread.proofs.Written.{read_describes, described_is_read}
use Rattle.po_mdread.proofs.laws.what_is_described.Goals as goal

pub returns-clause-read : goal.returns-clause-read
returns-clause-read c = λ ls n m at e. read_describes ls n m at e

pub returns-clause-described : goal.returns-clause-described
returns-clause-described c = λ ls n m at b. described_is_read ls n m at b
