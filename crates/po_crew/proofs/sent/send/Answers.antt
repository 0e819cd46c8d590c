use Rattle.po_crew.proofs.Posting.{full_by}
use Rattle.po_crew.proofs.sent.send.Goals as goal

pub returns-clause-posted : goal.returns-clause-posted
returns-clause-posted g c = record {
  answer = c.post-answer.result;
  took = c.post-answer.ensures.taken;
  counts = c.count.ensures;
  full = full_by c.post-answer.result (g.P.Post.fulls c.args.post.now) (g.P.Post.fulls c.post-answer.new.self)
      c.post-answer.ensures.cause c.post-answer.ensures.never_falls;
}
