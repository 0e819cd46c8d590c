use Rattle.std.proofs.Common.{◌≡◌, ◌∙◌, sym, length, arith}
use Rattle.po_assign.specs.Reads.{read_at}
use Rattle.po_assign.proofs.Lists.{block_count}
use Rattle.po_assign.proofs.LastReads.{block_turn}
use Rattle.po_assign.proofs.reads.last_reads.Goals as goal

pub loop-block-preserved : goal.loop-block-preserved
loop-block-preserved c =
    let bs = c.args.blocks.now in
    let j = c.loop-block.block-index in
    let b = c.block-item.result in
    let is = c.deref.result.now in
    let same = c.deref.ensures.value in
    let count : c.len.result ≡ length is = c.len.ensures ∙ sym c.deref.ensures.len in
    record {
      last = λ v. block_turn bs j b v c.loop-block.first (read_at c.loop-block.last.items v)
          (read_at c.note_block.new.last.items v) c.len.result _ is
          c.loop-block-test.true c.block-item.is same (c.in_ok-note_block.ensures v) count
          (c.loop-block.invariant.last v);
      number = omega (
        arith,
        count,
        block_count bs j b is c.loop-block-test.true c.block-item.is same,
        c.loop-block.invariant.number,
      );
    }
