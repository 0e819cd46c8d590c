use Rattle.std.proofs.Common.{sym, subst}
use Rattle.po_ir.specs.Units.{IsUnit}
use Rattle.po_sample.proofs.Samples.{sample_made, samples_units}
use Rattle.po_sample.proofs.unit.sample_unit.Goals as goal

pub returns-clause-is_it : goal.returns-clause-is_it
returns-clause-is_it c = sample_made c.args.seed c.args.k c.of_unit-draws.result.0 c.in_ok-name.name c.new-ops.result
    c.statements.new.ops c.result.new.ops c.of_unit-draws.ensures c.new-ops.ensures c.in_ok-statements.ensures
    c.in_ok-result.ensures c.in_ok-name.ensures

pub returns-clause-allowed : goal.returns-clause-allowed
returns-clause-allowed c = subst IsUnit (sym (sample_made c.args.seed c.args.k c.of_unit-draws.result.0
    c.in_ok-name.name c.new-ops.result c.statements.new.ops c.result.new.ops c.of_unit-draws.ensures c.new-ops.ensures
    c.in_ok-statements.ensures c.in_ok-result.ensures c.in_ok-name.ensures)) (samples_units c.args.seed c.args.k
    c.ranges.k.fits)
