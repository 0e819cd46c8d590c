use Rattle.std.proofs.Common.{◌≡◌, ◌≤◌, length, arith}
use Rattle.po_live.proofs.Graphs.{written_back, edges_added}
use Rattle.po_live.proofs.graph.predecessors.Goals as goal

pub loop-b-preserved : goal.loop-b-preserved
loop-b-preserved c =
    let keeps : c.loop-b.preds.len ≡ length c.add_edges.new.preds = omega arith in
    let same : length c.loop-b.preds.items ≤ c.loop-b.preds.len = omega arith in
    rw (written_back c.add_edges.new.preds c.loop-b.preds.items c.loop-b.preds.len keeps same) (
      omega arith,
      edges_added c.args.blocks.now c.in_ok-first.first c.in_ok-first.ensures.table c.loop-b.b c.index-blocks-b.result
          c.loop-b.preds.items c.deref_mut.result.now c.add_edges.new.preds
          c.loop-b-test.true c.index-blocks-b.is (omega arith) c.deref_mut.ensures.value
          c.loop-b.invariant.1 c.in_ok-add_edges.ensures,
    )
