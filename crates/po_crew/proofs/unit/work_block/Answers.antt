use Rattle.std.proofs.Common.{◌≡◌, All, map, sym, subst}
use Rattle.po_model.specs.Pairs.{pair_of, WellFormedPair}
use Rattle.po_slow.specs.States.{scan_of}
use Rattle.po_crew.specs.Posted.{ArePosted}
use Rattle.po_crew.proofs.Working.{formed_misses, worked_by}
use Rattle.po_crew.proofs.unit.work_block.Goals as goal

pub post_all-requires : goal.post_all-requires
post_all-requires g c =
    subst (λ ps. All WellFormedPair (map pair_of ps)) (sym c.deref.ensures.value)
    (formed_misses c.args.m.now (g.D.Door.told c.args.door) c.in_ok-scanned.scanned.bare (scan_of c.args.s.now)
    (scan_of c.scan_block.new.s) c.args.steps.now c.scan_block.new.steps c.in_ok-scanned.scanned.report
    c.in_ok-scanned.ensures.scanned)

pub returns-clause-worked : goal.returns-clause-worked
returns-clause-worked g c =
    let x = g.P.Post.taken c.args.post.now in
    let y = g.P.Post.taken c.post_all.new.post in
    let f = g.P.Post.fulls c.args.post.now in
    let h = g.P.Post.fulls c.post_all.new.post in
    let r = c.in_ok-scanned.scanned.report in
    let posted : ArePosted (map pair_of r.misses.items) x y f h c.in_ok-sent.sent.taken c.in_ok-sent.sent.dropped =
    subst (λ ps. ArePosted (map pair_of ps) x y f h c.in_ok-sent.sent.taken c.in_ok-sent.sent.dropped)
    c.deref.ensures.value c.in_ok-sent.ensures.posted in
    worked_by c.args.m.now (g.D.Door.told c.args.door) c.in_ok-scanned.scanned.bare (scan_of c.args.s.now)
    (scan_of c.scan_block.new.s) (scan_of c.next_block.new.self) c.args.steps.now c.scan_block.new.steps r
    c.args.course.now c.add.new.self x y f h c.in_ok-sent.sent.taken c.in_ok-sent.sent.dropped
    c.in_ok-scanned.ensures.scanned c.in_ok-next_block.ensures.goes_on posted c.in_ok-add.ensures.reports
    c.in_ok-add.ensures.bare c.in_ok-add.ensures.taken c.in_ok-add.ensures.dropped
