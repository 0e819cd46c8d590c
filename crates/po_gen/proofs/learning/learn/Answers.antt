use Rattle.std.proofs.Common.{◌≡◌, ◌∙◌, ap, subst}
use Rattle.std.specs.Prelude.{OnOk}
use Rattle.po_model.specs.Generalised.{generalised}
use Rattle.po_model.specs.Holed.{rule_of}
use Rattle.po_model.specs.Pairs.{pair_of}
use Rattle.po_table.specs.Tables.{rules_of}
use Rattle.po_gen.specs.Learnt.{PutsIn}
use Rattle.po_gen.proofs.learning.learn.Goals as goal

pub returns-clause-put : goal.returns-clause-put
returns-clause-put g c =
    let p = pair_of c.args.p.now in
    let e : rule_of c.in_ok-learned.learned.1 ≡ generalised c.args.table.now.0 p = c.in_ok-learned.ensures.rule
    ∙ ap (λ m. generalised m p) (c.in_ok-machine.ensures ∙ c.machine.ensures.is_it) in
    subst (λ r. OnOk c.add.result (PutsIn (rules_of c.args.table.now) r (rules_of c.add.new.table))) e
    c.add.ensures.put
