use Rattle.std.proofs.Common.{[], refl, arith}
use Rattle.po_model.specs.Blocks.{code_of}
use Rattle.po_model.specs.Combined.{combination}
use Rattle.po_slow.specs.States.{scan_of}
use Rattle.po_slow.proofs.Steps.{one_step, gone_more}
use Rattle.po_slow.proofs.Work.{step_less}
use Rattle.po_slow.proofs.unit.all_passes.Goals as goal

pub scan-init : goal.scan-init
scan-init g c = (
  c.in_ok-s.ensures.formed,
  record { steps = []; stands = (scan_of c.in_ok-s.s, c.in_ok-s.ensures.starts, refl); counted = omega arith },
  c.in_ok-s.ensures.marks c.args.m.now,
)

pub scan-smaller : goal.scan-smaller
scan-smaller g c =
    let s = scan_of c.scan.s in
    let t = scan_of c.step.new.s in
    let o = one_step c.args.m.now s t c.scan.steps c.step.new.steps c.in_ok-step.field-0 c.in_ok-step.ensures.steps
    c.if-branch.true in
    step_less (combination c.args.m.now) s t o.step o.goes

pub scan-preserved : goal.scan-preserved
scan-preserved g c =
    let s = scan_of c.scan.s in
    let t = scan_of c.step.new.s in
    let o = one_step c.args.m.now s t c.scan.steps c.step.new.steps c.in_ok-step.field-0 c.in_ok-step.ensures.steps
    c.if-branch.true in (
      c.in_ok-step.ensures.formed,
      gone_more c.args.m.now (code_of c.args.code) s t c.args.steps.now c.scan.steps c.step.new.steps
          c.scan.invariant.1 o,
      c.in_ok-step.ensures.marks,
    )
