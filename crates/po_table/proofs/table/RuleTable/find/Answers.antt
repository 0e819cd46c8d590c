use Rattle.std.proofs.Common.{◌≡◌, ◌∙◌, ap, subst}
use Rattle.std.specs.Prelude.{IfOk, MatchOption}
use Rattle.std.specs.Arc.{arc_value}
use Rattle.po_model.specs.Holed.{rule_of}
use Rattle.po_model.specs.Lookups.{NoneFits, FitsRule}
use Rattle.po_model.specs.Pairs.{pair_of}
use Rattle.po_table.specs.Tables.{shared, rules_of}
use Rattle.po_table.proofs.Lists.{shared_rules}
use Rattle.po_table.proofs.table.RuleTable.find.Goals as goal

pub returns : goal.returns
returns c =
    let e : shared c.deref.result.now ≡ rules_of c.args.self.now = ap shared c.deref.ensures.value
    ∙ shared_rules (arc_value c.self.inside.machine) c.self.inside.rules.items ∙ ap rules_of c.self.view_is in
    subst (λ rs. IfOk c.fitting.result (λ o. MatchOption o (NoneFits rs (pair_of c.args.p.now))
    (λ r. FitsRule rs (pair_of c.args.p.now) (rule_of (arc_value r.now))))) e c.fitting.ensures
