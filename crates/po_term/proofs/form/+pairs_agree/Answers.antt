use Rattle.po_term.specs.declared.transfer.Transfer.{Transfer}
use Rattle.po_term.specs.Moves.{move_of}
use Rattle.po_term.specs.Form.{GoesBefore}
use Rattle.po_term.proofs.FormLemmas.{pairs_split}
use Rattle.po_term.proofs.form.+pairs_agree.Goals as goal

pub returns-then-before_all : goal.returns-then-before_all
returns-then-before_all t c =
    let split = pairs_split (λ (x y : Transfer). GoesBefore (move_of x) (move_of y)) c.args.xs.now c.x-item.result
    c.in-len1-up.len_at_least c.x-item.is in (
      (λ h. split.1 (c.before_all.ensures.0 c.if-before_all.true, c.pairs_agree.ensures.0 h)),
      (λ h. c.pairs_agree.ensures.1 (split.0 h).1),
    )

pub returns-else-before_all : goal.returns-else-before_all
returns-else-before_all t c =
    let split = pairs_split (λ (x y : Transfer). GoesBefore (move_of x) (move_of y)) c.args.xs.now c.x-item.result
    c.in-len1-up.len_at_least c.x-item.is in
    ((λ h. absurd (cc (h, c.if-before_all.false))), (λ h. c.before_all.ensures.1 (split.0 h).0))
