use Rattle.std.proofs.Common.{◌<◌, length, arith}
use Rattle.po_core.specs.Fores.{CanEnd, HasEnded}
use Rattle.po_core.specs.Scans.{IsGoingAt}
use Rattle.po_core.proofs.Lifting.{lift_went, of_plain}
use Rattle.po_core.proofs.ended.end_at.Goals as goal

pub end_fore-requires-clause-going : goal.end_fore-requires-clause-going
end_fore-requires-clause-going c =
    let h : c.args.fore < length c.args.fores.now = omega arith in
    of_plain c.args.fores.now c.args.fore c.index-fores-fore.result c.index-fores-fore.result h
    (λ f. IsGoingAt f.scans f.at) c.requires.going

pub returns-clause-went : goal.returns-clause-went
returns-clause-went c =
    let h : c.args.fore < length c.args.fores.now = omega arith in
    lift_went c.args.fores.now c.args.fore c.index-fores-fore.result c.end_fore.new.f h CanEnd c.end_fore.result
    HasEnded
    c.end_fore.ensures.went
