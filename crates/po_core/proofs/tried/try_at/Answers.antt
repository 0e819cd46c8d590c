use Rattle.std.proofs.Common.{◌<◌, length, arith}
use Rattle.po_table.specs.Tables.{shared}
use Rattle.po_core.specs.Fores.{CanTry, HasTried}
use Rattle.po_core.specs.Parts.{ShowsAtMost}
use Rattle.po_core.proofs.Lifting.{lift_went, of_plain}
use Rattle.po_core.proofs.tried.try_at.Goals as goal

pub try_fore-requires-clause-shown : goal.try_fore-requires-clause-shown
try_fore-requires-clause-shown c =
    let h : c.args.fore < length c.args.fores.now = omega arith in
    of_plain c.args.fores.now c.args.fore c.index-fores-fore.result c.index-fores-fore.result h
    (λ f. ShowsAtMost f.shown (length c.args.published.now)) c.requires.shown

pub returns-clause-went : goal.returns-clause-went
returns-clause-went c =
    let h : c.args.fore < length c.args.fores.now = omega arith in
    let rs = shared c.args.published.now in
    lift_went c.args.fores.now c.args.fore c.index-fores-fore.result c.try_fore.new.f h (CanTry rs) c.try_fore.result
    (HasTried c.args.m.now rs) c.try_fore.ensures.went
