use Rattle.std.proofs.Common.{ap, sym, subst, ◌-◌, ◌+◌, set, None}
use Rattle.std.proofs.lemmas.List.{map-set}
use Rattle.po_term.specs.Moves.{instr_of, instrs_of}
use Rattle.po_model.specs.Combined.{combination_of}
use Rattle.po_slow.specs.Marks.{AreTrue}
use Rattle.po_slow.proofs.Marks.{gone_true, one_true}
use Rattle.po_slow.proofs.Standing.{gone_stand, one_stand}
use Rattle.po_slow.proofs.block.place.Goals as goal

pub returns-in-Nothing-clause-onward : goal.returns-in-Nothing-clause-onward
returns-in-Nothing-clause-onward c = λ live.
    let at = c.args.at.now in
    rw (c.drop_pair.ensures.at, c.in-Nothing.is)
    (gone_stand live c.args.xs.now at.done at.next at.changed c.requires.some c.requires.order c.requires.inside)

pub returns-in-One-clause-onward : goal.returns-in-One-clause-onward
returns-in-One-clause-onward c = λ live.
    let at = c.args.at.now in
    rw (c.replace_pair.ensures.at, c.replace_pair.ensures.xs, c.in-One.is)
    (one_stand live c.args.xs.now c.in-One.i at.done at.next at.changed c.requires.some c.requires.order
    c.requires.inside)

pub returns-in-Keep-clause-marks : goal.returns-in-Keep-clause-marks
returns-in-Keep-clause-marks c = λ m says t.
    c.take.ensures.marks m (λ s. says (ap combination_of c.in-Keep.is)) t

pub returns-in-Nothing-clause-marks : goal.returns-in-Nothing-clause-marks
returns-in-Nothing-clause-marks c = λ m says t.
    let at = c.args.at.now in
    rw (c.drop_pair.ensures.at, c.drop_pair.ensures.marks)
    (gone_true m (instrs_of c.args.xs.now) c.args.marks.now at.done at.next c.requires.order t)

pub returns-in-One-clause-marks : goal.returns-in-One-clause-marks
returns-in-One-clause-marks c = λ m says t.
    let at = c.args.at.now in
    let xs = c.args.xs.now in
    rw (c.replace_pair.ensures.at, c.replace_pair.ensures.marks, c.replace_pair.ensures.xs)
    (subst (λ l. AreTrue m l (set (set c.args.marks.now at.next None) (at.next + 1) None) (at.done - 1) at.next)
    (sym (map-set instr_of xs at.next c.in-One.i))
    (one_true m (instrs_of xs) c.args.marks.now at.done at.next c.requires.order t (instr_of c.in-One.i)
    c.requires.some))
