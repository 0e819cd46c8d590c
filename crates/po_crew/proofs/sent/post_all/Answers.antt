use Rattle.std.proofs.Common.{◌≡◌, ◌∙◌, ◌<◌, length, arith, refl, ap}
use Rattle.po_model.specs.Pairs.{pair_of}
use Rattle.po_crew.proofs.Posting.{pair_at, posted_none, posted_more}
use Rattle.po_crew.proofs.sent.post_all.Goals as goal

pub loop-p-init : goal.loop-p-init
loop-p-init g c = record {
  posted = posted_none (g.P.Post.taken c.args.post.now) (g.P.Post.fulls c.args.post.now);
  home = refl;
}

pub new-requires : goal.new-requires
new-requires g c =
    let h : c.loop-p.p-index < length c.args.misses.now = omega arith in
    pair_at c.args.misses.now c.loop-p.p-index c.p-item.result (pair_of c.in_ok-copy.copy) h c.p-item.is
    c.in_ok-copy.ensures c.requires

pub loop-p-preserved : goal.loop-p-preserved
loop-p-preserved g c =
    let h : c.loop-p.p-index < length c.args.misses.now = omega arith in
    record {
      posted = posted_more c.args.misses.now c.loop-p.p-index c.p-item.result (pair_of c.new.result)
          (g.P.Post.taken c.args.post.now) (g.P.Post.taken c.loop-p.post) (g.P.Post.taken c.send.new.post)
          (g.P.Post.fulls c.args.post.now) (g.P.Post.fulls c.loop-p.post) (g.P.Post.fulls c.send.new.post)
          c.loop-p.sent c.send.new.sent h c.p-item.is (ap pair_of c.new.ensures ∙ c.in_ok-copy.ensures)
          c.loop-p.invariant.posted c.send.ensures.posted;
      home = c.send.ensures.home ∙ c.loop-p.invariant.home;
    }
