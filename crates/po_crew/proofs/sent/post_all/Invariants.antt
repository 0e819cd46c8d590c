use Rattle.std.proofs.Common.{◌≡◌, map, take}
use Rattle.po_model.specs.Pairs.{pair_of}
use Rattle.po_crew.specs.Posted.{ArePosted}
use Rattle.po_crew.proofs.sent.post_all.Given as goal

-- the misses so far were posted
abbrev pub invariant-loop-p : goal.invariant-loop-p
invariant-loop-p g l = record {
  posted : ArePosted (map pair_of (take l.p-index l.misses)) (g.P.Post.taken l.initial.post) (g.P.Post.taken l.post)
      (g.P.Post.fulls l.initial.post) (g.P.Post.fulls l.post) l.sent.taken l.sent.dropped;
  home : g.P.Post.home l.post ≡ g.P.Post.home l.initial.post;
}
