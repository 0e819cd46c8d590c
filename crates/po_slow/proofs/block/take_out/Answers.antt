use Rattle.std.proofs.Common.{refl}
use Rattle.po_slow.proofs.block.take_out.Goals as goal

pub returns-clause-left : goal.returns-clause-left
returns-clause-left c = (c.replace.new.dest, refl)
