use Rattle.std.proofs.Common.{arith}
use Rattle.po_model.specs.Holed.{values_of}
use Rattle.po_skel.proofs.Filled.{next_has, next_put}
use Rattle.po_skel.proofs.fill.put_transfers.Goals as goal

pub add_transfer-requires : goal.add_transfer-requires
add_transfer-requires c =
    (next_has (values_of c.args.v.now) c.args.xs.now c.loop-t.t-index c.t-item.result (omega arith) c.t-item.is
    c.loop-t.invariant.1).0

pub loop-t-preserved : goal.loop-t-preserved
loop-t-preserved c = (
  next_put (values_of c.args.v.now) c.args.xs.now c.loop-t.t-index c.t-item.result c.loop-t.out.items
      c.add_transfer.new.out.items (omega arith) c.t-item.is c.in_ok-add_transfer.ensures c.loop-t.invariant.0,
  (next_has (values_of c.args.v.now) c.args.xs.now c.loop-t.t-index c.t-item.result (omega arith) c.t-item.is
      c.loop-t.invariant.1).1,
)
