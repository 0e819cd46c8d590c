use Rattle.std.proofs.Common.{◌≡◌, ◌∙◌, ap, length, arith, ◌&&◌, not}
use Rattle.po_model.specs.LiveAfter.{move_sets}
use Rattle.po_live.specs.Sets.{holds}
use Rattle.po_live.proofs.Moved.{all_moves_seen}
use Rattle.po_live.proofs.uses.unset_all.Goals as goal

pub returns : goal.returns
returns c =
    let end : c.loop-t.t-index ≡ length c.args.xs.now = omega arith in
    λ q. c.loop-t.invariant q
    ∙ ap (λ b. not b && holds c.args.live.now q)
    (all_moves_seen (λ m. move_sets m q) c.args.xs.now c.loop-t.t-index end)
