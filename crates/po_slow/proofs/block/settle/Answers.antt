use Rattle.po_slow.proofs.block.settle.Goals as goal

pub returns-clause-marks : goal.returns-clause-marks
returns-clause-marks c = λ m says t. c.go_on.ensures.marks m (c.place.ensures.marks m says t)
