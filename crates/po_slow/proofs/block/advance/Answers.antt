use Rattle.std.proofs.Common.{sym, ◌∙◌, ap, arith}
use Rattle.po_term.specs.Moves.{instr_of, instrs_of}
use Rattle.po_live.specs.Parts.{live_in, tells}
use Rattle.po_model.specs.Scanned.{is_dead}
use Rattle.po_slow.proofs.Standing.{dead_stand, first_stand, here_stand}
use Rattle.po_slow.proofs.Marks.{skip_true}
use Rattle.po_slow.proofs.block.advance.Goals as goal

pub returns-then-is_dead-clause-onward : goal.returns-then-is_dead-clause-onward
returns-then-is_dead-clause-onward c =
    let at = c.args.at.now in
    let l = c.at.ensures in
    let dead = ap (λ live. is_dead live (instr_of c.index-xs-at.result)) (sym l)
    ∙ (ap (λ x. is_dead (live_in c.at.result) (instr_of x)) c.index-xs-at.is
    ∙ (sym c.is_dead.ensures ∙ c.if-is_dead.true)) in
    rw c.skip.ensures.at (dead_stand (tells c.args.lives.now c.args.b) c.args.xs.now c.index-xs-at.result at.done
    at.next at.changed (omega arith) c.index-xs-at.is dead)

pub returns-then-at-eq0-clause-onward : goal.returns-then-at-eq0-clause-onward
returns-then-at-eq0-clause-onward c =
    let at = c.args.at.now in
    let l = c.at.ensures in
    let alive = ap (λ live. is_dead live (instr_of c.index-xs-at.result)) (sym l)
    ∙ (ap (λ x. is_dead (live_in c.at.result) (instr_of x)) c.index-xs-at.is
    ∙ (sym c.is_dead.ensures ∙ c.if-is_dead.false)) in
    first_stand (tells c.args.lives.now c.args.b) c.args.xs.now c.index-xs-at.result at.done at.next at.changed _
    (omega arith) c.index-xs-at.is alive (omega arith) (c.take.ensures.stand (tells c.args.lives.now c.args.b))

pub returns-else-at-eq0-clause-stays : goal.returns-else-at-eq0-clause-stays
returns-else-at-eq0-clause-stays c =
    let at = c.args.at.now in
    let l = c.at.ensures in
    let alive = ap (λ live. is_dead live (instr_of c.index-xs-at.result)) (sym l)
    ∙ (ap (λ x. is_dead (live_in c.at.result) (instr_of x)) c.index-xs-at.is
    ∙ (sym c.is_dead.ensures ∙ c.if-is_dead.false)) in
    λ _. here_stand (tells c.args.lives.now c.args.b) c.args.xs.now c.index-xs-at.result at.done at.next at.changed
    (omega arith) c.index-xs-at.is alive (omega arith) c.requires.order

pub returns-then-is_dead-clause-marks : goal.returns-then-is_dead-clause-marks
returns-then-is_dead-clause-marks c = λ m t.
    let at = c.args.at.now in
    rw (c.skip.ensures.at, c.skip.ensures.marks)
    (skip_true m (instrs_of c.args.xs.now) c.args.marks.now at.done at.next c.requires.order t)

pub returns-then-at-eq0-clause-marks : goal.returns-then-at-eq0-clause-marks
returns-then-at-eq0-clause-marks c = λ m t. c.take.ensures.marks m (λ s. absurd (omega (arith, s))) t
