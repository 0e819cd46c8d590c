use Rattle.std.proofs.Common.{arith, length-append}
use Rattle.po_live.proofs.Preds.{pred_none}
use Rattle.po_live.proofs.graph.empty_lists.Goals as goal

pub loop-made-preserved : goal.loop-made-preserved
loop-made-preserved c = (
  rw (c.in_ok-push_list.ensures) (simp length-append (omega arith)),
  λ q p. rw (c.in_ok-push_list.ensures)
      (pred_none c.loop-made.preds.items c.new.result c.new.ensures.items c.loop-made.invariant.1 q p),
)
