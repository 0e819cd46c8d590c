use Rattle.std.proofs.Common.{map, arith, slice_index_or}
use Rattle.po_model.specs.Blocks.{block_of, instrs_at}
use Rattle.po_live.specs.Sets.{holds_at}
use Rattle.po_live.specs.Sets.{sets_any}
use Rattle.po_live.specs.Due.{is_due}
use Rattle.po_live.proofs.Spreads.{in_at, more_out, more_work}
use Rattle.po_live.proofs.solve.spread.Goals as goal

pub arrive-requires-clause-here : goal.arrive-requires-clause-here
arrive-requires-clause-here c =
    let h = c.requires.here (slice_index_or c.args.ps.now c.loop-p.p-index 0)
    (in_at c.args.ps.now c.loop-p.p-index c.loop-p-test.true) in
    omega (arith, h, c.loop-p.invariant.long)

pub loop-p-preserved : goal.loop-p-preserved
loop-p-preserved c = record {
  long = omega arith;
  out =
      more_out c.args.v c.args.ps.now c.loop-p.p-index c.loop-p-test.true (holds_at c.args.out.now)
      (holds_at c.loop-p.out) (holds_at c.arrive.new.out)
      (λ b q. sets_any (instrs_at (map block_of c.args.blocks.now) b) q) c.loop-p.invariant.out
      c.in_ok-arrive.ensures.out;
  work =
      more_work c.args.v c.args.ps.now c.loop-p.p-index c.loop-p-test.true (holds_at c.args.out.now)
      (holds_at c.loop-p.out) (holds_at c.arrive.new.out)
      (λ b q. sets_any (instrs_at (map block_of c.args.blocks.now) b) q) c.loop-p.invariant.out
      (is_due c.args.work.now.items) (is_due c.loop-p.work.items) (is_due c.arrive.new.work.items)
      c.loop-p.invariant.work c.in_ok-arrive.ensures.work;
  fuel = λ us i.
      let a = c.loop-p.invariant.fuel us i in
      let b = rw (c.loop-p.invariant.long) at (c.in_ok-arrive.ensures.fuel us i) in
      omega (arith, a, b);
}
