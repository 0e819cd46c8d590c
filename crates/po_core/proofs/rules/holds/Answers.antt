use Rattle.std.proofs.Common.{◌↔◌, IfOk, IsTrue, sym, subst}
use Rattle.po_model.specs.Holed.{rule_of}
use Rattle.po_core.specs.Events.{HoldsOne}
use Rattle.po_core.specs.Views.{held_of}
use Rattle.po_core.proofs.rules.holds.Goals as goal

pub returns-in-Some : goal.returns-in-Some
returns-in-Some c =
    subst (λ h. IfOk c.is_instance_of.result (λ b. IsTrue b ↔ HoldsOne (held_of h) (rule_of c.args.rule.now)))
    (sym c.in-Some.is) c.is_instance_of.ensures
