use Rattle.std.proofs.Common.{arith, length-append}
use Rattle.po_live.proofs.Outs.{sets_none}
use Rattle.po_live.proofs.solve.empty_sets.Goals as goal

pub loop-made-preserved : goal.loop-made-preserved
loop-made-preserved c = (
  rw (c.in_ok-push_set.ensures) (simp length-append (omega arith)),
  λ b q. rw (c.in_ok-push_set.ensures)
      (sets_none c.loop-made.out.items c.empty.result c.empty.ensures c.loop-made.invariant.1 b q),
)
