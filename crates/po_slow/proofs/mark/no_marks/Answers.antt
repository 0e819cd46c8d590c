use Rattle.std.proofs.Common.{arith, length-append}
use Rattle.po_slow.proofs.MarksWritten.{none_more}
use Rattle.po_slow.proofs.mark.no_marks.Goals as goal

pub loop-b-preserved : goal.loop-b-preserved
loop-b-preserved c = (
  rw (c.in_ok-push.ensures) (simp length-append (omega arith)),
  λ d i. rw (c.in_ok-push.ensures)
      (none_more c.loop-b.marks.items c.in_ok-none.none c.in_ok-none.ensures c.loop-b.invariant.1 d i),
)
