use Rattle.po_model.specs.Combined.{combination_of}
use Rattle.po_live.specs.Parts.{tells}
use Rattle.po_slow.proofs.MarksHere.{answered_says}
use Rattle.po_slow.proofs.ready.try_pair.Goals as goal

pub returns-clause-marks : goal.returns-clause-marks
returns-clause-marks g c =
    let at = c.args.at.now in
    c.settle.ensures.marks c.args.m.now
    (λ e. answered_says c.args.m.now (tells c.args.lives.now c.args.b) c.args.xs.now at.done at.next
    c.mark_here-mark.result (combination_of c.in_ok-o.o) c.requires.some c.requires.order c.requires.inside
    c.mark_here-mark.ensures c.in_ok-o.ensures.answer e)
    c.requires.marks
