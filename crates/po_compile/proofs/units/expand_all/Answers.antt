use Rattle.po_model.specs.UnitCodes.{unit_of, IsUnitCode}
use Rattle.po_compile.proofs.Each.{all_append}
use Rattle.po_compile.proofs.Written.{expanded_next, units_append}
use Rattle.po_compile.specs.Steps.{units_of}
use Rattle.po_compile.proofs.units.expand_all.Goals as goal

pub loop-unit-preserved : goal.loop-unit-preserved
loop-unit-preserved c = record {
  naive = expanded_next c.args.units.now c.loop-unit.unit-index c.unit-item.result c.loop-unit.codes.items
      c.push_code.new.codes.items c.in_ok-expand.field-0 c.loop-unit-test.true c.unit-item.is c.in_ok-push_code.ensures
      c.in_ok-expand.ensures.naive c.loop-unit.invariant.naive;
  formed = rw (c.in_ok-push_code.ensures, units_append c.loop-unit.codes.items c.in_ok-expand.field-0)
      (all_append IsUnitCode (units_of c.loop-unit.codes.items) (unit_of c.in_ok-expand.field-0)
      c.loop-unit.invariant.formed c.in_ok-expand.ensures.formed);
}
