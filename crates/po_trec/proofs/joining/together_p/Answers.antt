use Rattle.po_model.specs.Holed.{hole_moves_of, shape_of}
use Rattle.po_trec.proofs.Together.{joined_by}
use Rattle.po_trec.proofs.joining.together_p.Goals as goal

pub returns : goal.returns
returns c =
    let simplified = rw (c.deref-2.ensures.value, c.deref-3.ensures.value) at c.in_ok-a.ensures in
    joined_by c.args.v.now.consts.items (shape_of c.args.s.now) c.has_control.result c.goes_away.result
    (hole_moves_of c.in_ok-a.a.items) (hole_moves_of c.in_ok-wanted.wanted.items) c.join_simple.result c.args.path.now
    c.simplify_transfers.new.path c.join_simple.new.path (rw c.deref.ensures.value at c.has_control.ensures)
    c.if-has_control.false (rw c.deref-else-has_control.ensures.value at c.goes_away.ensures) c.if-goes_away.false
    simplified.0 simplified.1 c.in_ok-wanted.ensures
    (rw (c.deref-4.ensures.value, c.deref-5.ensures.value) at c.join_simple.ensures)
