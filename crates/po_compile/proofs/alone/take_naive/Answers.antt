use Rattle.std.proofs.Common.{◌∙◌, sym, subst, refl}
use Rattle.po_model.specs.Naive.{naive}
use Rattle.po_model.specs.UnitCodes.{PlainUnit, unit_of}
use Rattle.po_compile.specs.declared.mode.Mode.TheVariants.{Naive}
use Rattle.po_compile.specs.Output.{AllFit}
use Rattle.po_compile.proofs.Turning.{done_next}
use Rattle.po_compile.proofs.alone.take_naive.Goals as goal

pub returns-then-fits-clause-done : goal.returns-then-fits-clause-done
returns-then-fits-clause-done c = λ us count done.
    done_next Naive c.args.target.now.machine us c.args.number (naive c.args.unit.now) (unit_of c.in_ok-code.code)
    (unit_of c.in_ok-code.code) c.args.work.now c.add.new.self count done c.in_ok-code.ensures.naive
    (c.in_ok-fits.ensures.fits c.if-fits.true) c.in_ok-code.ensures.formed refl c.in_ok-fits.ensures.come

pub returns-clause-done : goal.returns-clause-done
returns-clause-done c = λ us count done.
    done_next Naive c.args.target.now.machine us c.args.number (naive c.args.unit.now) (unit_of c.in_ok-code.code)
    (unit_of c.in_ok-code.code) c.args.work.now c.add.new.self count done c.in_ok-code.ensures.naive
    (subst (λ (u : PlainUnit). AllFit c.args.target.now.machine u)
    (c.in_ok-again.ensures.naive ∙ sym c.in_ok-code.ensures.naive) c.in_ok-check_unit.ensures)
    c.in_ok-code.ensures.formed refl c.in_ok-fits.ensures.come
