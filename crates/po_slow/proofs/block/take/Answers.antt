use Rattle.po_slow.proofs.MarksHere.{take_moved, marks_moved}
use Rattle.po_slow.proofs.block.take.Goals as goal

pub returns-clause-stand : goal.returns-clause-stand
returns-clause-stand c =
    let at = c.args.at.now in
    λ live. take_moved live c.args.xs.now c.move_down.new.xs at.done at.next at.changed c.requires.order
    c.requires.inside c.move_down.ensures

pub returns-clause-marks : goal.returns-clause-marks
returns-clause-marks c = λ m says t.
    let at = c.args.at.now in
    rw (c.put.ensures)
    (marks_moved m c.args.xs.now c.move_down.new.xs c.args.marks.now at.done at.next c.args.mark c.requires.order
    c.requires.inside c.move_down.ensures says t)
