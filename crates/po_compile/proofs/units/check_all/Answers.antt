use Rattle.std.proofs.Common.{suc, zero, arith}
use Rattle.po_model.specs.UnitCodes.{unit_of, IsUnitCode}
use Rattle.po_model.specs.Fitted.{IsUnrecognised}
use Rattle.po_compile.specs.Output.{AllFit}
use Rattle.po_compile.proofs.Each.{all_at, good_next, bad_next, bad_here}
use Rattle.po_compile.proofs.Refused.{unrecognised}
use Rattle.po_compile.proofs.units.check_all.Goals as goal

pub check_by-requires-clause-code : goal.check_by-requires-clause-code
check_by-requires-clause-code c = (all_at IsUnitCode unit_of c.args.codes.now c.loop-code.code-index c.code-item.result
    c.requires.formed c.loop-code-test.true c.code-item.is).placeable.form.ends_last

pub check_by-requires-clause-few_instrs : goal.check_by-requires-clause-few_instrs
check_by-requires-clause-few_instrs c = (all_at IsUnitCode unit_of c.args.codes.now c.loop-code.code-index
    c.code-item.result c.requires.formed c.loop-code-test.true c.code-item.is).placeable.few_instrs

pub check_by-requires-clause-few_blocks : goal.check_by-requires-clause-few_blocks
check_by-requires-clause-few_blocks c = (all_at IsUnitCode unit_of c.args.codes.now c.loop-code.code-index
    c.code-item.result c.requires.formed c.loop-code-test.true c.code-item.is).placeable.few_blocks

pub returns-in-Err-Unrecognised : goal.returns-in-Err-Unrecognised
returns-in-Err-Unrecognised c =
    rw (c.loop-code.invariant.counted, c.in-Err-Unrecognised.block-is, c.in-Err-Unrecognised.index-is)
    (bad_here (AllFit c.args.machine.now) (λ u. IsUnrecognised u.code c.args.machine.now c.in-Err-Unrecognised.block
    c.in-Err-Unrecognised.index) unit_of c.args.codes.now c.args.codes.now c.loop-code.code-index
    c.code-item.result
    c.loop-code-test.true c.code-item.is (unrecognised c.args.machine.now (unit_of c.code-item.result) _ _ _
    c.in-Err-Unrecognised.field-0-is c.in-Err-Unrecognised.ensures) (c.loop-code.invariant.bad _ _ zero))

pub loop-code-preserved : goal.loop-code-preserved
loop-code-preserved c = record {
  counted = omega (arith, c.loop-code.invariant.counted);
  good = good_next (AllFit c.args.machine.now) unit_of c.args.codes.now c.loop-code.code-index c.code-item.result _
      c.loop-code-test.true c.code-item.is c.in-Ok.ensures c.loop-code.invariant.good;
  bad = λ b i k. bad_next (AllFit c.args.machine.now) (λ u. IsUnrecognised u.code c.args.machine.now b i) unit_of
      c.args.codes.now c.args.codes.now c.loop-code.code-index k c.code-item.result c.loop-code-test.true
      c.code-item.is c.in-Ok.ensures (c.loop-code.invariant.bad b i (suc k));
}
