use Rattle.std.proofs.Common.{arith}
use Rattle.std.proofs.lemmas.Grind.{common_steps}
use Rattle.po_mdread.proofs.Joined.{joined_is}
use Rattle.po_mdread.proofs.print.push_head.Goals as goal

pub returns : goal.returns
returns c = rw (joined_is c.args.word.now c.args.names.now) (grind (arith, common_steps))
