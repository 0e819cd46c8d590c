use Rattle.po_model.specs.Holed.{hole_moves_of}
use Rattle.po_trec.proofs.Choices.{in_order_of}
use Rattle.po_trec.proofs.order.in_order.Goals as goal

pub returns : goal.returns
returns c =
    in_order_of c.none_yet-by_kind.result c.add_all.new.by_kind (hole_moves_of c.args.ts.items)
    (hole_moves_of c.in_ok-all.all.items)
    c.none_yet-by_kind.ensures c.in_ok-add_all.ensures c.in_ok-all.ensures
