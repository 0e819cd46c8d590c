use Rattle.std.proofs.Common.{refl}
use Rattle.po_live.proofs.Held.{held_less}
use Rattle.po_live.proofs.sets.remove_reg.Goals as goal

pub returns : goal.returns
returns c =
    held_less c.args.live.now (record { regs = c.remove_from.new.regs; cc = c.args.live.now.cc }) c.args.r
    c.remove_from.ensures refl
