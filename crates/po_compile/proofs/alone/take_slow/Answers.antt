use Rattle.po_model.specs.Naive.{naive}
use Rattle.po_model.specs.UnitCodes.{unit_of}
use Rattle.po_compile.specs.declared.mode.Mode.TheVariants.{Slow}
use Rattle.po_compile.proofs.Slowed.{code_formed}
use Rattle.po_compile.proofs.Turning.{done_next}
use Rattle.po_compile.proofs.alone.take_slow.Goals as goal

pub slow_unit_by-requires-clause-index : goal.slow_unit_by-requires-clause-index
slow_unit_by-requires-clause-index g c = c.requires.target.index

pub slow_unit_by-requires-clause-code : goal.slow_unit_by-requires-clause-code
slow_unit_by-requires-clause-code g c = c.in_ok-code.ensures.formed.placeable.form

pub add-requires-clause-formed : goal.add-requires-clause-formed
add-requires-clause-formed g c =
    let slowed = c.in_ok-made.ensures.slowed in
    code_formed Slow c.args.target.now.machine (unit_of c.in_ok-code.code) (unit_of c.in_ok-made.made)
    c.requires.machine (slowed.0, slowed.1) c.in_ok-code.ensures.formed

pub returns-clause-done : goal.returns-clause-done
returns-clause-done g c = λ us count done.
    let slowed = c.in_ok-made.ensures.slowed in
    done_next Slow c.args.target.now.machine us c.args.number (naive c.args.unit.now) (unit_of c.in_ok-code.code)
    (unit_of c.in_ok-made.made) c.args.work.now c.add.new.self count done c.in_ok-code.ensures.naive
    c.in_ok-check_unit.ensures c.in_ok-code.ensures.formed (slowed.0, slowed.1) c.in_ok-add.ensures.come
