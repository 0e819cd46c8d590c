use Rattle.std.proofs.Common.{◌≡◌, ◌≤◌, List, length, ap, sym, subst, arith}
use Rattle.po_ir.specs.declared.unit.Unit.{Unit as StackUnit}
use Rattle.po_model.specs.declared.machine.Machine.{Machine}
use Rattle.po_model.specs.Machines.{IsMachine}
use Rattle.po_compile.specs.Modes.{mode_alone}
use Rattle.po_compile.specs.Output.{naive_codes}
use Rattle.po_compile.specs.Turns.{AreDone}
use Rattle.po_compile.proofs.Turning.{answered}
use Rattle.po_compile.proofs.compile.assembled.Goals as goal

pub assemble-requires-clause-machine : goal.assemble-requires-clause-machine
assemble-requires-clause-machine c = subst (λ (m : Machine). IsMachine m) (sym c.in_ok-target.ensures.machine)
    c.requires.machine

pub assemble-requires-clause-few : goal.assemble-requires-clause-few
assemble-requires-clause-few c =
    let few : length c.args.program.units ≤ 65536 = c.requires.few in
    let same : length c.as_slice.result.now ≡ length c.args.program.units = ap length c.as_slice.ensures in
    omega arith

pub returns-in-Ok : goal.returns-in-Ok
returns-in-Ok c = λ text input.
    answered c.args.alone text c.args.program.machine c.args.program.units c.in-Ok.work c.outcome.result
    c.requires.machine input
    (subst (λ (us : List StackUnit). AreDone (mode_alone c.args.alone) c.args.program.machine (naive_codes us)
    c.in-Ok.work) c.as_slice.ensures
    (subst (λ (m : Machine). AreDone (mode_alone c.args.alone) m (naive_codes c.as_slice.result.now) c.in-Ok.work)
    c.in_ok-target.ensures.machine c.in-Ok.ensures.done))
    c.outcome.ensures
