use Rattle.po_emit.proofs.Flags.{flag_there, flag_past}
use Rattle.po_emit.proofs.lines.cc_live_at.Goals as goal

pub returns-in-Some : goal.returns-in-Some
returns-in-Some c =
    flag_there c.args.lives.now c.args.i c.in-Some.live.now c.in-Some.ensures.lookup.0 c.in-Some.ensures.lookup.1

pub returns-in-None : goal.returns-in-None
returns-in-None c = flag_past c.args.lives.now c.args.i c.in-None.ensures.lookup.0
