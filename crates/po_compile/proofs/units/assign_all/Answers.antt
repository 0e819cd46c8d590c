use Rattle.std.proofs.Common.{ap}
use Rattle.po_model.specs.UnitCodes.{unit_of}
use Rattle.po_compile.proofs.Assigning.{assigning_begin, first_formed, assigning_next, assigning_short, assigning_end}
use Rattle.po_compile.proofs.Assigning.{placed_so}
use Rattle.po_compile.proofs.Each.{none_left}
use Rattle.po_compile.proofs.Refused.{crowded}
use Rattle.po_compile.proofs.units.assign_all.Goals as goal

pub loop-code-init : goal.loop-code-init
loop-code-init c = assigning_begin c.args.machine.now c.args.codes.items c.into_iter-code-iterator.result.rest.items
    c.new-all.result.items c.into_iter-code-iterator.ensures.into_iter_gives.0 c.new-all.ensures.items
    c.requires.formed

pub loop-code-preserved : goal.loop-code-preserved
loop-code-preserved c = assigning_next c.args.machine.now c.args.codes.items c.loop-code.code-iterator.rest.items
    c.next.new.self.rest.items c.loop-code.all.items c.push_placed.new.all.items c.loop-code.unit c.in-Some.code
    c.in-Ok.placed
    c.loop-code.invariant c.in-Some.ensures.steps.0 c.in_ok-push_placed-in-Ok.ensures.pushed
    (ap unit_of c.in-Ok.ensures.unit) (placed_so c.args.machine.now c.in-Ok.placed c.in-Some.code
    c.in-Ok.ensures.unit c.in-Ok.ensures.regs) c.in-Ok.ensures.uncrowded

pub assign-requires-clause-code : goal.assign-requires-clause-code
assign-requires-clause-code c = (first_formed c.args.machine.now c.args.codes.items
    c.loop-code.code-iterator.rest.items c.next.new.self.rest.items c.loop-code.all.items c.loop-code.unit
    c.in-Some.code c.loop-code.invariant c.in-Some.ensures.steps.0).placeable

pub returns-in-Err-TooFew : goal.returns-in-Err-TooFew
returns-in-Err-TooFew c = rw (c.in-Err-TooFew.point-is, c.in-Err-TooFew.needed-is)
    (assigning_short c.args.machine.now c.args.codes.items c.loop-code.code-iterator.rest.items
    c.next.new.self.rest.items c.loop-code.all.items c.loop-code.unit c.in-Some.code _ _ c.loop-code.invariant
    c.in-Some.ensures.steps.0
    (crowded c.args.machine.now (unit_of c.in-Some.code) _ _ _ c.in-Err-TooFew.field-0-is
    c.in-Err-TooFew.ensures.refused))

pub returns : goal.returns
returns c = assigning_end c.args.machine.now c.args.codes.items c.loop-code.code-iterator.rest.items
    c.loop-code.all.items c.loop-code.unit c.loop-code.invariant
    (none_left c.loop-code.code-iterator.rest.len c.loop-code.code-iterator.rest.items
    c.loop-code.code-iterator.rest.ok.0 c.in-None.ensures.steps.0)
