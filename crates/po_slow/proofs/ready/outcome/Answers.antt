use Rattle.std.proofs.Common.{ap, sym, ◌∙◌}
use Rattle.po_model.specs.declared.var.Var.TheVariants.{Reg, Cc}
use Rattle.po_model.specs.Combined.{combination_of}
use Rattle.po_live.specs.Parts.{tells}
use Rattle.po_slow.proofs.PairAhead.{has_is_among, answer_there}
use Rattle.po_slow.proofs.ready.outcome.Goals as goal

pub returns-clause-answer : goal.returns-clause-answer
returns-clause-answer g c =
    let at = c.args.at in
    let live = tells c.args.lives.now c.args.b in
    answer_there c.args.m.now live c.args.xs.now at.done at.next c.index-xs-at.result c.index-xs-at-2.result
    (combination_of c.in_ok-outcome.outcome) c.requires.some c.requires.order c.requires.inside c.index-xs-at.is
    c.index-xs-at-2.is
    (c.in_ok-outcome.ensures.ahead (live at.next)
    (λ r. ap (λ f. f (Reg r)) (sym c.at-live.ensures) ∙ has_is_among c.at-live.result.regs.now r)
    (ap (λ f. f Cc) (sym c.at-live.ensures)))
