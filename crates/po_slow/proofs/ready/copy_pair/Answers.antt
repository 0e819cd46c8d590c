use Rattle.po_live.specs.Parts.{tells}
use Rattle.po_slow.proofs.Standing.{pair_is_ready}
use Rattle.po_slow.proofs.ready.copy_pair.Goals as goal

pub returns : goal.returns
returns c =
    let at = c.args.at in
    pair_is_ready (tells c.args.lives.now c.args.b) c.args.xs.now at.done at.next c.index-xs-at.result
    c.index-xs-at-2.result c.at.result (record { a = c.in_ok-a.a; b = c.in_ok-b.b; live = c.in_ok-live.live })
    c.requires.some c.requires.order c.requires.inside c.index-xs-at.is c.index-xs-at-2.is c.at.ensures
    c.in_ok-a.ensures c.in_ok-b.ensures c.in_ok-live.ensures.regs c.in_ok-live.ensures.cc
