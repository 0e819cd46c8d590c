use Rattle.std.proofs.Common.{length-append, arith, map, false}
use Rattle.po_model.specs.Blocks.{block_of, instrs_at}
use Rattle.po_live.specs.Flags.{cc_after, flag_at}
use Rattle.po_live.proofs.Flags.{blocks_more, after_there}
use Rattle.po_live.proofs.cc.flags_after.Goals as goal

pub loop-b-preserved : goal.loop-b-preserved
loop-b-preserved c = (
  rw (c.in_ok-push_flags.ensures) (simp length-append (omega arith)),
  λ b h. rw (c.in_ok-push_flags.ensures)
      (blocks_more (λ d. cc_after (instrs_at (map block_of c.args.blocks.now) d) (flag_at c.args.out.now d))
      c.loop-b.after.items c.in_ok-flags.flags c.loop-b.b c.loop-b.invariant.0 c.loop-b.invariant.1
      (after_there c.args.blocks.now c.args.out.now c.loop-b.b c.index-blocks-b.result false c.deref.result.now
      c.in_ok-flags.flags.items c.loop-b-test.true (omega (arith, c.loop-b-test.true, c.requires))
      c.deref.ensures.value c.in_ok-flags.ensures) b h),
)
