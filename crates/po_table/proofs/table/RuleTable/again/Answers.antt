use Rattle.std.proofs.Common.{◌∙◌, ap, subst, sym}
use Rattle.std.specs.Arc.{arc_value}
use Rattle.po_table.specs.Tables.{IsTable}
use Rattle.po_table.proofs.Lists.{held}
use Rattle.po_table.proofs.table.RuleTable.again.Goals as goal

pub invariant_of-result : goal.invariant_of-result
invariant_of-result c =
    let rules = c.in_ok-rules.ensures ∙ ap held c.deref.ensures.value in
    subst (λ m. IsTable (m, held c.in_ok-rules.rules.items)) (sym c.in_ok-try_clone.ensures)
    (subst (λ rs. IsTable (arc_value c.self.inside.machine, rs)) (sym rules) c.self.invariant)
