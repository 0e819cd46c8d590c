use Rattle.std.proofs.Common.{◌≡◌, ◌≢◌, All, sym, ◌∙◌, ap, subst}
use Rattle.std.specs.Arc.{arc_value}
use Rattle.po_model.specs.Canonical.{Canonical}
use Rattle.po_model.specs.Holed.{rule_of}
use Rattle.po_table.specs.Tables.{rules_of}
use Rattle.po_table.proofs.Lists.{held, table_put}
use Rattle.po_table.proofs.table.RuleTable.push.Goals as goal

pub invariant_of-self : goal.invariant_of-self
invariant_of-self c =
    let m = arc_value c.self.inside.machine in
    let r = rule_of (arc_value c.into_rule-rule.result) in
    let is : rule_of c.args.l.1 ≡ r = ap rule_of (sym c.into_rule-rule.ensures.is_it) in
    let same : c.args.l.0 ≡ m = c.requires.same ∙ ap (λ t. t.0) (sym c.self.view_is) in
    let canonical : Canonical m r =
    subst (λ n. Canonical n r) same (subst (Canonical c.args.l.0) is c.into_rule-rule.ensures.canonical) in
    let fresh : All (λ s. s ≢ r) (rules_of (m, held c.self.inside.rules.items)) =
    subst (λ t. All (λ s. s ≢ r) (rules_of t)) (sym c.self.view_is)
    (subst (λ q. All (λ s. s ≢ q) (rules_of c.args.self.now)) is c.requires.fresh) in
    table_put m c.self.inside.rules.items c.push.new.self.items c.into_rule-rule.result _ c.push.ensures.items
    c.self.invariant canonical fresh
