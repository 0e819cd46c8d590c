use Rattle.std.proofs.Common.{◌≡◌, [], ◌++◌}
use mathlib.Core.List.{IsPrefix}
use Rattle.po_model.specs.Blocks.{code_of}
use Rattle.po_rule.specs.Posts.{RoseBy}
use Rattle.po_slow.specs.States.{scan_of, IsFormedState}
use Rattle.po_slow.proofs.Work.{work}
use Rattle.po_crew.proofs.Working.{IsWorking}
use Rattle.po_crew.proofs.unit.work_unit.Given as goal

-- all blocks so far were scanned, and what they missed was posted
abbrev pub invariant-scan : goal.invariant-scan
invariant-scan g l = record {
  formed : IsFormedState l.s;
  working : IsWorking l.m (g.D.Door.told l.fn.door) (code_of l.fn.u.code) (scan_of l.s) l.course l.initial.steps
      l.steps
      (g.P.Post.taken l.initial.post) (g.P.Post.taken l.post) (g.P.Post.fulls l.initial.post) (g.P.Post.fulls l.post);
  machine : g.D.Door.machine l.door ≡ g.D.Door.machine l.fn.door;
  told : IsPrefix (g.D.Door.told l.fn.door) (g.D.Door.told l.door);
  refusals : RoseBy l.course.bare (g.D.Door.refusals l.fn.door) (g.D.Door.refusals l.door);
  home : g.D.Door.home l.door ≡ g.D.Door.home l.fn.door;
  post_home : g.P.Post.home l.post ≡ g.P.Post.home l.initial.post;
}

abbrev pub decreases-scan : goal.decreases-scan
decreases-scan g l = work (scan_of l.s)
