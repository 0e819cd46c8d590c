use Rattle.po_live.proofs.Preds.{on_ok, pred_put}
use Rattle.po_live.proofs.graph.push_at.Goals as goal

pub returns : goal.returns
returns c =
    on_ok c.push_index.result
    (λ i. pred_put c.args.preds.now c.args.q c.args.p c.index-preds-q.result c.push_index.new.list c.requires i)
    c.push_index.ensures
