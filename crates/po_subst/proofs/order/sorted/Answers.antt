use Rattle.po_term.specs.Moves.{instr_of}
use Rattle.po_subst.specs.Seen.{is_among}
use Rattle.po_subst.proofs.InOrder.{assembled_of}
use Rattle.po_subst.proofs.order.sorted.Goals as goal

pub returns : goal.returns
returns c =
    assembled_of (is_among c.args.live.now) c.args.cc_live c.none_yet-by_kind.result c.add_kept.new.by_kind
    c.add_all.new.by_kind (instr_of c.args.a.now) (instr_of c.args.second.now) (instr_of c.args.b)
    (instr_of c.in_ok-i.i)
    c.none_yet-by_kind.ensures c.in_ok-add_kept.ensures c.in_ok-add_all.ensures c.in_ok-i.ensures
