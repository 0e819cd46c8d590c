use Rattle.po_live.specs.Sets.{holds}
use Rattle.po_live.specs.Due.{is_due}
use Rattle.po_live.proofs.Spreads.{started}
use Rattle.po_live.proofs.solve.starts.Goals as goal

pub loop-b-preserved : goal.loop-b-preserved
loop-b-preserved c =
    started c.args.blocks.now c.loop-b.b c.index-blocks-b.result c.deref.result.now (holds c.in_ok-live.live)
    (is_due c.loop-b.work.items) (is_due c.push_live.new.work.items)
    c.loop-b-test.true c.deref.ensures.value c.in_ok-live.ensures c.loop-b.invariant c.in_ok-push_live.ensures
