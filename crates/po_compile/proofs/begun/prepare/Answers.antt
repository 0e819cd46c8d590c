use Rattle.std.proofs.Common.{◌≡◌, ◌≤◌, All, length, ap, subst, arith}
use Rattle.po_compile.specs.Output.{AllFit}
use Rattle.po_compile.specs.Steps.{units_of}
use Rattle.po_compile.proofs.Assembled.{count_of}
use Rattle.po_compile.proofs.begun.prepare.Goals as goal

pub check_all-requires-clause-few : goal.check_all-requires-clause-few
check_all-requires-clause-few c =
    let many : length c.in_ok-codes.codes.items ≡ length c.args.program.units =
    count_of c.in_ok-codes.codes.items c.args.program.units c.as_slice.result.now c.in_ok-codes.ensures.naive
    c.as_slice.ensures in
    let seen : length c.deref.result.now ≡ length c.in_ok-codes.codes.items = ap length c.deref.ensures.value in
    omega arith

pub returns-clause-fits : goal.returns-clause-fits
returns-clause-fits c =
    subst (λ cs. All (AllFit c.args.program.machine) (units_of cs)) c.deref.ensures.value c.in_ok-check_all.ensures

pub returns-clause-few : goal.returns-clause-few
returns-clause-few c =
    let many : length c.in_ok-codes.codes.items ≡ length c.args.program.units =
    count_of c.in_ok-codes.codes.items c.args.program.units c.as_slice.result.now c.in_ok-codes.ensures.naive
    c.as_slice.ensures in
    let few : length c.args.program.units ≤ 65536 = c.requires.few in omega arith
