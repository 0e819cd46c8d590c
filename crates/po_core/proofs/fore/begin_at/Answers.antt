use Rattle.std.proofs.Common.{◌<◌, length, All, sym, subst, arith}
use Rattle.po_slow.specs.States.{IsFormedState}
use Rattle.po_core.specs.Fores.{CanBegin, HasBegun}
use Rattle.po_core.specs.Views.{IsFormedFore}
use Rattle.po_core.proofs.Lifting.{lift_did, lift_all}
use Rattle.po_core.proofs.fore.begin_at.Goals as goal

pub returns-clause-went : goal.returns-clause-went
returns-clause-went c =
    let h : c.args.fore < length c.args.fores.now = omega arith in
    lift_did c.args.fores.now c.args.fore c.index-fores-fore.result c.begin.new.f h
    (CanBegin c.args.published c.args.shown)
    c.begin.result (HasBegun c.args.shown) c.begin.ensures.went

pub returns-clause-formed : goal.returns-clause-formed
returns-clause-formed c =
    let h : c.args.fore < length c.args.fores.now = omega arith in
    lift_all c.args.fores.now c.args.fore c.index-fores-fore.result c.begin.new.f h IsFormedFore
    (subst (All IsFormedState) (sym c.begin.ensures.same))
