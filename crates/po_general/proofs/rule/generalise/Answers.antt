use Rattle.std.proofs.Common.{◌∙◌, ap}
use Rattle.std.specs.Arc.{arc_value}
use Rattle.po_model.specs.declared.machine.Machine.{Machine}
use Rattle.po_model.specs.declared.rule.Rule.{Rule}
use Rattle.po_model.specs.Pairs.{pair_of}
use Rattle.po_model.specs.Holed.{rule_of}
use Rattle.po_general.proofs.Made.{canonical_by, instance_by}
use Rattle.po_general.proofs.rule.generalise.Goals as goal

pub new-requires-2 : goal.new-requires-2
new-requires-2 g c =
    canonical_by (arc_value c.args.m) c.deref.result.now (pair_of c.args.p.now)
    (rule_of (arc_value c.in_ok-rule-2.rule)) (rule_of c.in_ok-rule.rule) c.requires.machine
    (ap rule_of c.in_ok-rule-2.ensures.ok) c.in_ok-rule.ensures c.deref.ensures

pub returns-clause-instance : goal.returns-clause-instance
returns-clause-instance g c =
    instance_by (arc_value c.args.m) c.deref.result.now (pair_of c.args.p.now) (rule_of c.new-2.result.1)
    (rule_of c.in_ok-rule.rule)
    (ap (λ (r : Machine × Rule). rule_of r.1) c.new-2.ensures ∙ ap rule_of c.in_ok-rule-2.ensures.ok)
    c.in_ok-rule.ensures c.deref.ensures

pub returns-clause-canonical : goal.returns-clause-canonical
returns-clause-canonical g c =
    canonical_by (arc_value c.args.m) c.deref.result.now (pair_of c.args.p.now) (rule_of c.new-2.result.1)
    (rule_of c.in_ok-rule.rule) c.requires.machine
    (ap (λ (r : Machine × Rule). rule_of r.1) c.new-2.ensures ∙ ap rule_of c.in_ok-rule-2.ensures.ok)
    c.in_ok-rule.ensures c.deref.ensures
