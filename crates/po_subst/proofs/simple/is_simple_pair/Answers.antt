use Rattle.std.proofs.Common.{sym, ◌∙◌}
use Rattle.po_term.specs.Simplified.{reg_eq}
use Rattle.po_subst.proofs.Unchanged.{registers_stay, sum_stays, not_true}
use Rattle.po_subst.proofs.simple.is_simple_pair.Goals as goal

pub returns-in-Reg : goal.returns-in-Reg
returns-in-Reg c =
    rw (c.in-Reg.is)
    (λ e. registers_stay c.args.op c.args.r c.in-Reg.q (sym c.is_one.ensures ∙ not_true c.is_one.result e))

pub returns-in-Num : goal.returns-in-Num
returns-in-Num c =
    rw (c.in-Num.is) (λ e. let h = c.adds_something.ensures e in rw (h.0) (sum_stays c.args.r c.in-Num.c h.1))
