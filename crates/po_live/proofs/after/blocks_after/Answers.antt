use Rattle.std.proofs.Common.{map, length-append, arith}
use Rattle.po_model.specs.Blocks.{block_of}
use Rattle.po_live.specs.Sets.{holds_at}
use Rattle.po_live.proofs.Instrs.{blocks_more, after_there}
use Rattle.po_live.proofs.after.blocks_after.Goals as goal

pub loop-b-preserved : goal.loop-b-preserved
loop-b-preserved c = (
  rw (c.in_ok-push_block.ensures) (simp length-append (omega arith)),
  λ b h. rw (c.in_ok-push_block.ensures)
      (blocks_more (map block_of c.args.blocks.now) (holds_at c.args.out.now) c.loop-b.after.items c.in_ok-lives.lives
      c.loop-b.b c.loop-b.invariant.0 c.loop-b.invariant.1
      (after_there c.args.blocks.now c.args.out.now c.loop-b.b c.index-blocks-b.result c.index-out-b.result
      c.deref.result.now c.in_ok-lives.lives.items c.loop-b-test.true (omega arith) c.deref.ensures.value
      c.index-out-b.is c.in_ok-lives.ensures) b h),
)
