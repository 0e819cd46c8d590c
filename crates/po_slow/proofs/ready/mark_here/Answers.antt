use Rattle.po_live.specs.Parts.{live_in, tells}
use Rattle.po_slow.proofs.MarksHere.{fits_there}
use Rattle.po_slow.proofs.ready.mark_here.Goals as goal

pub returns : goal.returns
returns c =
    let at = c.args.at in
    fits_there (live_in c.at.result) (tells c.args.lives.now c.args.b at.next) c.args.xs.now at.done at.next
    c.index-xs-at.result c.index-xs-at-2.result c.mark_of.result c.requires.some c.requires.order c.requires.inside
    c.index-xs-at.is c.index-xs-at-2.is c.at.ensures c.mark_of.ensures
