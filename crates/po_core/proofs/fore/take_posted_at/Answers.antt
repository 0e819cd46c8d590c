use Rattle.std.proofs.Common.{◌<◌, length, All, sym, subst, arith}
use Rattle.po_model.specs.Pairs.{pair_of}
use Rattle.po_slow.specs.States.{IsFormedState}
use Rattle.po_core.specs.Fores.{CanPost, HasPosted}
use Rattle.po_core.specs.Views.{IsFormedFore}
use Rattle.po_core.proofs.Lifting.{lift_some, lift_all}
use Rattle.po_core.proofs.fore.take_posted_at.Goals as goal

pub returns-clause-went : goal.returns-clause-went
returns-clause-went c =
    let h : c.args.fore < length c.args.fores.now = omega arith in
    lift_some c.args.fores.now c.args.fore c.index-fores-fore.result c.take_posted.new.f h CanPost c.take_posted.result
    (λ p. HasPosted (pair_of p)) c.take_posted.ensures.went

pub returns-clause-formed : goal.returns-clause-formed
returns-clause-formed c =
    let h : c.args.fore < length c.args.fores.now = omega arith in
    lift_all c.args.fores.now c.args.fore c.index-fores-fore.result c.take_posted.new.f h IsFormedFore
    (subst (All IsFormedState) (sym c.take_posted.ensures.same))
