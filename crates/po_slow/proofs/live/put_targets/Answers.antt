use Rattle.std.proofs.Common.{◌∷◌, [], sym, ◌∙◌, ap, arith}
use Rattle.po_term.specs.Moves.{move_of}
use Rattle.po_live.specs.Parts.{live_in}
use Rattle.po_model.specs.Scanned.{put_live}
use Rattle.po_slow.proofs.Targets.{put_more}
use Rattle.po_slow.proofs.live.put_targets.Goals as goal

pub loop-t-preserved : goal.loop-t-preserved
loop-t-preserved c =
    let live = live_in c.args.live in
    let e =
    put_more live c.args.xs.now c.loop-t.t-index c.t-item.result c.args.regs.now.keys (omega arith) c.t-item.is in
    c.in_ok-put_target.ensures ∙ (ap (put_live live (move_of c.t-item.result ∷ [])) c.loop-t.invariant ∙ sym e)
