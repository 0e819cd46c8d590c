use Rattle.po_live.specs.Parts.{tells}
use Rattle.po_slow.proofs.MarksHere.{marked_answer}
use Rattle.po_slow.proofs.ready.answer.Goals as goal

pub returns-then-is_marked-clause-answer : goal.returns-then-is_marked-clause-answer
returns-then-is_marked-clause-answer g c =
    let at = c.args.at in
    marked_answer c.args.m.now (tells c.args.lives.now c.args.b) c.args.xs.now c.args.marks.now at.done at.next
    c.args.mark c.requires.some c.requires.order c.requires.inside c.requires.fits c.requires.marks
    (c.is_marked.ensures c.if-is_marked.true)
