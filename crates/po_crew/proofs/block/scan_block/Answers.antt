use Rattle.std.proofs.Common.{◌≡◌, false, subst}
use Rattle.po_model.specs.Lookups.{AreCanonical}
use Rattle.po_slow.specs.States.{scan_of}
use Rattle.po_crew.proofs.Working.{scanned_by}
use Rattle.po_crew.proofs.block.scan_block.Goals as goal

pub scan_inside-requires-clause-canonical : goal.scan_inside-requires-clause-canonical
scan_inside-requires-clause-canonical g c =
    subst (λ m. AreCanonical m (g.D.Inside.Lookup.rules c.in-Ok.inside)) c.requires.door c.in-Ok.ensures.canonical

pub returns-in_ok-scanned-in-Ok-clause-scanned : goal.returns-in_ok-scanned-in-Ok-clause-scanned
returns-in_ok-scanned-in-Ok-clause-scanned g c =
    let rules = g.D.Inside.Lookup.rules c.in-Ok.inside in
    let canonical : AreCanonical c.args.m.now rules =
    subst (λ m. AreCanonical m rules) c.requires.door c.in-Ok.ensures.canonical in
    scanned_by c.args.m.now (g.D.Door.told c.args.door) rules false c.in_ok-scanned-in-Ok.scanned.bare
    (scan_of c.args.s.now) (scan_of c.scan_inside.new.s) c.args.steps.now c.scan_inside.new.steps
    c.in_ok-scanned-in-Ok.scanned.report c.in_ok-scanned-in-Ok.ensures.bare (canonical, c.in-Ok.ensures.rules)
    c.in_ok-scanned-in-Ok.ensures.done
