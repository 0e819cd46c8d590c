use Rattle.std.proofs.Common.{sym, ◌∙◌}
use Rattle.std.specs.Prelude.{filter}
use Rattle.po_term.specs.Moves.{instr_of}
use Rattle.po_model.specs.Joined.{is_wanted}
use Rattle.po_subst.specs.Seen.{is_among}
use Rattle.po_subst.proofs.InOrder.{alone}
use Rattle.po_subst.proofs.order.assemble.Goals as goal

pub returns-then-not-keeps_some : goal.returns-then-not-keeps_some
returns-then-not-keeps_some c =
    alone (is_among c.args.live.now) c.args.cc_live (instr_of c.args.a.now)
    (filter (is_wanted (is_among c.args.live.now) c.args.cc_live) (instr_of c.args.second.now)) (instr_of c.args.b)
    (sym c.keeps_some.ensures ∙ c.if-not-keeps_some.true) (c.is_one_moving.ensures c.if-is_one_moving.true)
