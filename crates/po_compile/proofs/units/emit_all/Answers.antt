use Rattle.std.proofs.Common.{arith}
use Rattle.po_model.specs.UnitCodes.{unit_of, IsUnitCode}
use Rattle.po_compile.specs.Steps.{IsPlaced}
use Rattle.po_compile.proofs.Each.{all_at, all_here}
use Rattle.po_compile.proofs.Written.{written_next, written_end}
use Rattle.po_compile.proofs.units.emit_all.Goals as goal

pub emit_by-requires-clause-code : goal.emit_by-requires-clause-code
emit_by-requires-clause-code c = (all_at IsUnitCode (λ p. unit_of p.unit) c.args.all.now c.loop-placed.placed-index
    c.placed-item.result c.requires.formed c.loop-placed-test.true c.placed-item.is).placeable.form.ends_last

pub loop-placed-preserved : goal.loop-placed-preserved
loop-placed-preserved c = written_next c.args.machine.now c.args.all.now c.loop-placed.placed-index
    c.placed-item.result c.loop-placed.out.items c.emit_by.new.out.items c.in_ok-emit_by.ensures.ok.0
    c.loop-placed-test.true
    c.placed-item.is c.in_ok-emit_by.ensures.ok.1
    (all_here (IsPlaced c.args.machine.now) c.args.all.now c.loop-placed.placed-index c.placed-item.result
    c.requires.placed c.loop-placed-test.true c.placed-item.is) c.in_ok-emit_by.ensures.ok.2 c.loop-placed.invariant

pub returns : goal.returns
returns c = written_end c.args.machine.now c.args.all.now c.loop-placed.placed-index c.loop-placed.out.items
    (omega arith) c.loop-placed.invariant
