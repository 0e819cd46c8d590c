use Rattle.std.proofs.Common.{◌∷◌, [], ◌++◌, arith, refl}
use Rattle.po_slow.specs.States.{scan_of}
use Rattle.po_fore.proofs.Going.{one_try, no_try, try_less, gains_append, still_going, at_end_after, block_done}
use Rattle.po_fore.proofs.block.compile_block.Goals as goal

pub tries-smaller : goal.tries-smaller
tries-smaller g c =
    let rs = g.R.Lookup.rules c.args.rules.now in
    let o = one_try c.args.m.now rs (scan_of c.tries.s) (scan_of c.step.new.s) c.tries.report c.step.new.report
    c.tries.steps c.step.new.steps c.in_ok-step.field-0 c.in_ok-step.ensures.tried c.if-branch.true in
    try_less c.args.m.now rs (scan_of c.tries.s) (scan_of c.step.new.s) c.tries.report c.step.new.report c.tries.steps
    c.step.new.steps o.0 o.1

pub tries-preserved : goal.tries-preserved
tries-preserved g c =
    let rs = g.R.Lookup.rules c.args.rules.now in
    let o = one_try c.args.m.now rs (scan_of c.tries.s) (scan_of c.step.new.s) c.tries.report c.step.new.report
    c.tries.steps c.step.new.steps c.in_ok-step.field-0 c.in_ok-step.ensures.tried c.if-branch.true in
    record {
      formed = c.in_ok-step.ensures.formed;
      going = still_going c.args.m.now rs (scan_of c.tries.s) (scan_of c.step.new.s) (o.0 ∷ []) o.1.goes
          c.tries.invariant.going;
      gains = (
        c.tries.invariant.gains.0 ++ o.0 ∷ [],
        gains_append c.args.m.now rs (scan_of c.args.s.now)
            (scan_of c.tries.s) (scan_of c.step.new.s) _ c.tries.report c.step.new.report c.args.steps.now
            c.tries.steps
            c.step.new.steps c.tries.invariant.gains.0 (o.0 ∷ []) c.tries.invariant.gains.1 o.1,
      );
    }

pub returns-clause-done : goal.returns-clause-done
returns-clause-done g c =
    let rs = g.R.Lookup.rules c.args.rules.now in
    let o = no_try c.args.m.now rs (scan_of c.tries.s) (scan_of c.step.new.s) c.tries.report c.step.new.report
    c.tries.steps c.step.new.steps c.in_ok-step.field-0 c.in_ok-step.ensures.tried c.if-branch.false in
    let all = gains_append c.args.m.now rs (scan_of c.args.s.now) (scan_of c.tries.s) (scan_of c.step.new.s) _
    c.tries.report c.step.new.report c.args.steps.now c.tries.steps c.step.new.steps c.tries.invariant.gains.0 []
    c.tries.invariant.gains.1 o.1 in
    block_done c.args.m.now rs (scan_of c.args.s.now) (scan_of c.step.new.s) _ c.step.new.report _ c.args.steps.now
    c.step.new.steps (c.tries.invariant.gains.0 ++ []) all
    (at_end_after c.args.m.now rs (scan_of c.tries.s) (scan_of c.step.new.s) _ _ _ _ o.1 o.0) c.new.ensures.items
    c.new-2.ensures.items refl refl (omega arith)
