use Rattle.std.proofs.Common.{◌∙◌}
use Rattle.po_emit.proofs.Flags.{flags_there, flags_past}
use Rattle.po_emit.proofs.unit.flags_at.Goals as goal

pub returns-in-Some : goal.returns-in-Some
returns-in-Some c =
    c.deref.ensures.value
    ∙ flags_there c.args.lives.now c.args.b c.in-Some.after.now c.in-Some.ensures.lookup.0
    c.in-Some.ensures.lookup.1

pub returns-in-None : goal.returns-in-None
returns-in-None c = flags_past c.args.lives.now c.args.b c.in-None.ensures.lookup.0
