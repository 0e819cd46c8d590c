use Rattle.std.proofs.Common.{rules, ◌≤◌, length, arith}
use Rattle.po_term.proofs.form.is_well_formed_list.Goals as goal

pub returns-then-pairs_agree : goal.returns-then-pairs_agree
returns-then-pairs_agree c =
    let some : 1 ≤ length c.args.xs.now = search rules in
    let few : length c.args.xs.now ≤ 4 = omega arith in (
      (λ h. (some, few, c.pairs_agree.ensures.0 c.if-pairs_agree.true, c.all_well_formed.ensures.0 h)),
      (λ h. c.all_well_formed.ensures.1 h.3),
    )
