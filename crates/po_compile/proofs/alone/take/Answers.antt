use Rattle.std.proofs.Common.{◌++◌, ◌∷◌, [], sym, subst}
use Rattle.std.specs.Prelude.{OnOk}
use Rattle.po_model.specs.Naive.{naive}
use Rattle.po_compile.specs.declared.mode.Alone.{Alone}
use Rattle.po_compile.specs.Modes.{mode_alone}
use Rattle.po_compile.specs.Turns.{AreDone}
use Rattle.po_compile.proofs.alone.take.Goals as goal

pub returns-in-Naive-clause-done : goal.returns-in-Naive-clause-done
returns-in-Naive-clause-done g c = λ us count done.
    subst (λ (alone : Alone). OnOk c.take_naive.result (AreDone (mode_alone alone) c.args.target.now.machine
    (us ++ naive c.args.unit.now ∷ []) c.take_naive.new.work)) (sym c.in-Naive.is)
    (c.take_naive.ensures.done us count (subst (λ (alone : Alone). AreDone (mode_alone alone)
    c.args.target.now.machine us c.args.work.now) c.in-Naive.is done))

pub returns-in-Slow-clause-done : goal.returns-in-Slow-clause-done
returns-in-Slow-clause-done g c = λ us count done.
    subst (λ (alone : Alone). OnOk c.take_slow.result (AreDone (mode_alone alone) c.args.target.now.machine
    (us ++ naive c.args.unit.now ∷ []) c.take_slow.new.work)) (sym c.in-Slow.is)
    (c.take_slow.ensures.done us count (subst (λ (alone : Alone). AreDone (mode_alone alone)
    c.args.target.now.machine us c.args.work.now) c.in-Slow.is done))
