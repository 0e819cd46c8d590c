use Rattle.std.proofs.Common.{◌≡◌, ◌∙◌, ap, length, arith, ◌||◌}
use Rattle.po_model.specs.LiveAfter.{move_reads}
use Rattle.po_live.specs.Sets.{holds}
use Rattle.po_live.proofs.Moved.{all_moves_seen}
use Rattle.po_live.proofs.uses.read_all.Goals as goal

pub returns : goal.returns
returns c =
    let end : c.loop-t.t-index ≡ length c.args.xs.now = omega arith in
    λ q. c.loop-t.invariant q
    ∙ ap (λ b. b || holds c.args.live.now q)
    (all_moves_seen (λ m. move_reads m q) c.args.xs.now c.loop-t.t-index end)
