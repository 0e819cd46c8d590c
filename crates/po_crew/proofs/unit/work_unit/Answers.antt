use Rattle.std.proofs.Common.{◌≡◌, ◌∙◌, refl, sym, subst}
use Rattle.po_model.specs.declared.code.UnitCode.{UnitCode}
use Rattle.po_model.specs.Blocks.{code_of}
use Rattle.po_model.specs.Scanned.{Finished}
use Rattle.po_model.specs.UnitCodes.{unit_of}
use Rattle.po_rule.specs.Posts.{RoseBy}
use Rattle.po_slow.specs.Passes.{IsSlowedUnit}
use Rattle.po_slow.specs.States.{scan_of}
use Rattle.po_crew.specs.declared.unit.Work.{Work}
use Rattle.po_crew.specs.Units.{HasPassed, tries_in}
use Rattle.po_crew.proofs.Posting.{not_risen, rose_on}
use Rattle.po_crew.proofs.Working.{prefix_same, prefix_trans, working_begin, working_next, working_end, worked_less}
use Rattle.po_crew.proofs.unit.work_unit.Goals as goal

pub work_block-requires-clause-going : goal.work_block-requires-clause-going
work_block-requires-clause-going g c = λ f.
    let yes = c.is_finished.ensures.1 f in
    let no = c.scan-test.true in
    absurd (cc)

pub scan-init : goal.scan-init
scan-init g c = record {
  formed = c.in_ok-s.ensures.formed;
  working = working_begin c.args.m.now (g.D.Door.told c.args.door) (code_of c.args.u.code) (scan_of c.in_ok-s.s)
      c.new-course.result c.args.steps.now (g.P.Post.taken c.args.post.now) (g.P.Post.fulls c.args.post.now)
      c.in_ok-s.ensures.starts c.new-course.ensures.reports c.new-course.ensures.bare c.new-course.ensures.taken
      c.new-course.ensures.dropped;
  machine = refl;
  told = prefix_same (g.D.Door.told c.args.door) (g.D.Door.told c.args.door) refl;
  refusals = subst (λ n. RoseBy n (g.D.Door.refusals c.args.door) (g.D.Door.refusals c.args.door))
      (sym c.new-course.ensures.bare) (not_risen (g.D.Door.refusals c.args.door));
  home = refl;
  post_home = refl;
}

pub scan-preserved : goal.scan-preserved
scan-preserved g c =
    let i = c.scan.invariant in
    let w = c.in_ok-door.ensures in
    record {
      formed = w.formed;
      working = working_next c.args.m.now (g.D.Door.told c.args.door) (g.D.Door.told c.scan.door)
          (code_of c.args.u.code) (scan_of c.scan.s) (scan_of c.work_block.new.s) c.scan.course c.work_block.new.course
          c.args.steps.now c.scan.steps c.work_block.new.steps (g.P.Post.taken c.args.post.now)
          (g.P.Post.taken c.scan.post) (g.P.Post.taken c.work_block.new.post) (g.P.Post.fulls c.args.post.now)
          (g.P.Post.fulls c.scan.post) (g.P.Post.fulls c.work_block.new.post) i.told i.working w.worked;
      machine = w.machine ∙ i.machine;
      told = prefix_trans (g.D.Door.told c.args.door) (g.D.Door.told c.scan.door) (g.D.Door.told c.in_ok-door.door)
          i.told w.told;
      refusals = subst
          (λ n. RoseBy n (g.D.Door.refusals c.args.door) (g.D.Door.refusals c.in_ok-door.door)) (sym w.refusals.1)
          (rose_on c.scan.course.bare w.refusals.0 (g.D.Door.refusals c.args.door) (g.D.Door.refusals c.scan.door)
          (g.D.Door.refusals c.in_ok-door.door) i.refusals w.refusals.2);
      home = w.home ∙ i.home;
      post_home = w.post_home ∙ i.post_home;
    }

pub scan-smaller : goal.scan-smaller
scan-smaller g c = worked_less c.args.m.now (g.D.Door.told c.scan.door) (scan_of c.scan.s)
    (scan_of c.work_block.new.s) c.scan.course c.work_block.new.course c.scan.steps c.work_block.new.steps
    (g.P.Post.taken c.scan.post) (g.P.Post.taken c.work_block.new.post) (g.P.Post.fulls c.scan.post)
    (g.P.Post.fulls c.work_block.new.post) c.in_ok-door.ensures.worked

pub returns-clause-slowed : goal.returns-clause-slowed
returns-clause-slowed g c =
    let m = c.args.m.now in
    let told = g.D.Door.told c.args.door in
    let course = c.scan.course in
    let unit : UnitCode = record c.args.u { code = c.code.result } in
    let passed : HasPassed m told (code_of c.args.u.code) (Finished (code_of c.code.result)) course.reports.items
    course.bare =
    subst (λ s. HasPassed m told (code_of c.args.u.code) s course.reports.items course.bare) c.code.ensures
    c.scan.invariant.working.passed in
    subst (λ (w : Work). IsSlowedUnit m (unit_of c.args.u) (unit_of w.unit) (tries_in w.reports.items))
    (sym c.finished.ensures)
    (working_end m told (unit_of c.args.u) (unit_of unit) course.reports.items course.bare refl passed)
