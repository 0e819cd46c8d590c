use Rattle.std.proofs.Common.{◌≡◌, suc, ◌-◌, ◌<◌, length, ◌∙◌, arith}
use Rattle.po_live.specs.Sets.{holds}
use Rattle.po_live.proofs.Instrs.{after_more, live_more}
use Rattle.po_live.proofs.after.block_after.Goals as goal

pub loop-i-preserved : goal.loop-i-preserved
loop-i-preserved c =
    let next : c.loop-i.i ≡ suc (c.loop-i.i - 1) = omega arith in
    let here : c.loop-i.i - 1 < length c.args.xs.now = omega arith in
    record {
      within = omega arith;
      live =
          live_more c.args.xs.now (c.loop-i.i - 1) c.loop-i.i c.index-xs-i.result (holds c.args.out.now)
          (holds c.loop-i.live) (holds c.step_with_fp.new.live) next here c.index-xs-i.is c.loop-i.invariant.live
          c.in_ok-step_with_fp.ensures;
      after =
          rw (c.in_ok-push_live.ensures) (after_more c.args.xs.now (c.loop-i.i - 1) c.loop-i.i c.index-xs-i.result
          (holds c.args.out.now) c.in_ok-set_of.field-0 c.loop-i.after.items next here
          (λ q. c.in_ok-set_of.ensures q ∙ c.loop-i.invariant.live q) c.loop-i.invariant.after);
    }
