use Rattle.po_live.proofs.Keys.{key_put}
use Rattle.po_live.proofs.after.put.Goals as goal

pub returns-in-Ok : goal.returns-in-Ok
returns-in-Ok c = key_put c.args.r c.args.regs.now c.insert.new.self c.in-Ok.ensures.updates
