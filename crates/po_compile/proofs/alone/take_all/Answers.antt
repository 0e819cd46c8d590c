use Rattle.std.proofs.Common.{◌∙◌, List, refl, sym, subst, take, take_all, arith}
use Rattle.po_model.specs.UnitCodes.{PlainUnit}
use Rattle.po_ir.specs.declared.unit.Unit.{Unit as StackUnit}
use Rattle.po_compile.specs.Modes.{mode_alone}
use Rattle.po_compile.specs.Output.{naive_codes}
use Rattle.po_compile.specs.Turns.{AreDone}
use Rattle.po_compile.proofs.Turning.{done_begin, taken_next, taken_count, first_refused}
use Rattle.po_compile.proofs.alone.take_all.Goals as goal

pub loop-unit-init : goal.loop-unit-init
loop-unit-init g c = record {
  counted = refl;
  done = done_begin (mode_alone c.args.alone) c.args.target.now.machine c.no_work-work.result
      c.no_work-work.ensures.crowd c.no_work-work.ensures.out;
}

pub loop-unit-preserved : goal.loop-unit-preserved
loop-unit-preserved g c =
    let us = c.args.units.now in
    let i = c.loop-unit.unit-index in
    let u = c.unit-item.result in
    let count = taken_count us i (omega (arith, c.loop-unit-test.true)) ∙ sym c.loop-unit.invariant.counted in
    record {
      counted = omega (arith, c.loop-unit.invariant.counted);
      done = subst (λ (ns : List PlainUnit). AreDone (mode_alone c.args.alone) c.args.target.now.machine ns
          c.take.new.work) (sym (taken_next us i u c.loop-unit-test.true c.unit-item.is))
          (c.in-Ok.ensures.done (naive_codes (take i us)) count c.loop-unit.invariant.done);
    }

pub returns-in-Err-clause-refused : goal.returns-in-Err-clause-refused
returns-in-Err-clause-refused g c = first_refused c.args.target.now.machine c.args.units.now c.loop-unit.unit-index
    c.loop-unit.number c.unit-item.result c.in-Err.refusal c.loop-unit.invariant.done.fits c.loop-unit-test.true
    c.unit-item.is c.loop-unit.invariant.counted c.in-Err.ensures.refused

pub returns-clause-done : goal.returns-clause-done
returns-clause-done g c =
    subst (λ (us : List StackUnit). AreDone (mode_alone c.args.alone) c.args.target.now.machine (naive_codes us)
    c.loop-unit.work) (take_all c.loop-unit.unit-index c.args.units.now (omega (arith, c.loop-unit-test.false)))
    c.loop-unit.invariant.done
