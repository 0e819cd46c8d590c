use Rattle.po_trec.proofs.Answered.{next_answers, last_answers}
use Rattle.po_trec.proofs.questions.+ask_from.Goals as goal

pub returns-then-branch : goal.returns-then-branch
returns-then-branch t c =
    next_answers c.args.holes.now c.args.found.now c.args.i c.index-found-i.result c.in_ok-ask_at.field-0
    c.ask_from.result c.args.path.now c.ask_at.new.path c.ask_from.new.path
    c.if-i-found.true c.index-found-i.is c.in_ok-ask_at.ensures.0 c.in_ok-ask_at.ensures.1 c.if-branch.true
    c.ask_from.ensures

pub returns-else-branch : goal.returns-else-branch
returns-else-branch t c =
    last_answers c.args.holes.now c.args.found.now c.args.i c.index-found-i.result c.in_ok-ask_at.field-0
    c.args.path.now c.ask_at.new.path
    c.if-i-found.true c.index-found-i.is c.in_ok-ask_at.ensures.0 c.in_ok-ask_at.ensures.1 c.if-branch.false
