use Rattle.std.proofs.Common.{◌≡◌, ◌∙◌, sym, length, arith}
use Rattle.po_assign.specs.Reads.{read_at}
use Rattle.po_assign.proofs.Lists.{block_count}
use Rattle.po_assign.proofs.Intervals.{block_spans}
use Rattle.po_assign.proofs.spans.spans_of.Goals as goal

pub loop-block-preserved : goal.loop-block-preserved
loop-block-preserved c =
    let bs = c.args.blocks.now in
    let j = c.loop-block.block-index in
    let b = c.block-item.result in
    let is = c.deref.result.now in
    let same = c.deref.ensures.value in
    let count : c.len.result ≡ length is = c.len.ensures ∙ sym c.deref.ensures.len in
    record {
      made = block_spans (read_at c.args.last.now) bs j b c.loop-block.first c.len.result is c.loop-block.spans.items
          c.push_block.new.spans.items _
          c.loop-block-test.true c.block-item.is same c.in_ok-push_block.ensures count c.loop-block.invariant.made;
      number = omega (
        arith,
        count,
        block_count bs j b is c.loop-block-test.true c.block-item.is same,
        c.loop-block.invariant.number,
      );
    }
