use Rattle.std.proofs.Common.{◌≡◌, ◌≢◌, All, sym, ◌∙◌, ap, subst}
use Rattle.std.specs.Arc.{arc_value}
use Rattle.po_model.specs.Holed.{rule_of}
use Rattle.po_rule.specs.Adding.{Refused}
use Rattle.po_table.specs.Tables.{shared, rules_of}
use Rattle.po_table.proofs.Lists.{shared_rules}
use Rattle.po_table.proofs.table.RuleTable.add.Goals as goal

pub push-requires-clause-fresh : goal.push-requires-clause-fresh
push-requires-clause-fresh c =
    let e : shared c.deref-2.result.now ≡ rules_of c.args.self.now = ap shared c.deref-2.ensures.value
    ∙ shared_rules (arc_value c.self.inside.machine) c.self.inside.rules.items ∙ ap rules_of c.self.view_is in
    subst (All (λ s. s ≢ rule_of c.args.l.1)) e c.in-Ok.ensures.fresh

pub returns-in-Err-clause-refused : goal.returns-in-Err-clause-refused
returns-in-Err-clause-refused c =
    let e : shared c.deref-2.result.now ≡ rules_of c.args.self.now = ap shared c.deref-2.ensures.value
    ∙ shared_rules (arc_value c.self.inside.machine) c.self.inside.rules.items ∙ ap rules_of c.self.view_is in
    let m : c.deref.result.now ≡ c.args.self.now.0 = c.deref.ensures ∙ ap (λ t. t.0) c.self.view_is in
    subst (λ rs. Refused c.args.self.now.0 rs c.args.l.0 (rule_of c.args.l.1) c.in-Err.refusal) e
    (subst (λ n. Refused n (shared c.deref-2.result.now) c.args.l.0 (rule_of c.args.l.1) c.in-Err.refusal) m
    c.in-Err.ensures.refused)
