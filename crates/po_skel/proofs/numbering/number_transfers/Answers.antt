use Rattle.std.proofs.Common.{sym, subst}
use Rattle.po_model.specs.Holed.{values_of}
use Rattle.po_skel.specs.Few.{HasFew}
use Rattle.po_skel.proofs.Numbered.{few_at}
use Rattle.po_skel.proofs.numbering.number_transfers.Goals as goal

pub add_transfer-requires : goal.add_transfer-requires
add_transfer-requires c =
    few_at (values_of c.loop-t.v) c.args.xs.now c.loop-t.t-index c.t-item.result c.loop-t-test.true c.t-item.is
    (subst HasFew (sym c.loop-t.invariant.0) c.requires)
