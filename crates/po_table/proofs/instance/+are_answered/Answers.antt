use Rattle.std.proofs.Common.{sym, ◌∙◌}
use Rattle.po_table.proofs.Answered.{first_answered, first_not_answered}
use Rattle.po_table.proofs.instance.+are_answered.Goals as goal

pub returns-then-is_answered : goal.returns-then-is_answered
returns-then-is_answered t c = first_answered c.args.holes.now c.args.asked.now c.first-item.result
    c.are_answered.result c.in-len1-up.len_at_least c.first-item.is
    (c.is_answered.ensures.0 (let is = c.if-is_answered.true in cc))
    c.are_answered.ensures

pub returns-else-is_answered : goal.returns-else-is_answered
returns-else-is_answered t c = first_not_answered c.args.holes.now c.args.asked.now c.first-item.result
    c.is_answered.result c.in-len1-up.len_at_least c.first-item.is
    (λ g. let yes = c.is_answered.ensures.1 g in let no = c.if-is_answered.false in absurd (cc)) c.if-is_answered.false
