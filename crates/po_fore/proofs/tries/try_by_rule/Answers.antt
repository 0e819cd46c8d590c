use Rattle.std.proofs.Common.{◌≡◌, ◌∙◌, ap, sym, subst}
use Rattle.std.specs.Arc.{arc_value}
use Rattle.po_model.specs.Combined.{combination, combination_of}
use Rattle.po_model.specs.Holed.{rule_of}
use Rattle.po_model.specs.Lookups.{gives}
use Rattle.po_model.specs.Pairs.{pair_of}
use Rattle.po_model.specs.Put.{HasValues}
use Rattle.po_model.specs.Shape.{pair_values}
use Rattle.po_slow.specs.States.{scan_of}
use Rattle.po_fore.proofs.Filled.{instance_filled}
use Rattle.po_fore.proofs.Going.{can_try, by_same}
use Rattle.po_fore.proofs.tries.try_by_rule.Goals as goal

pub outcome-requires : goal.outcome-requires
outcome-requires c =
    let p = pair_of c.args.p in
    let filled = instance_filled c.args.m.now (rule_of (arc_value c.args.rule.now)) p c.requires.machine
    c.requires.canonical c.requires.pair c.requires.instance in
    subst (λ r. HasValues (pair_values p) (rule_of r).result) (sym c.deref.ensures) filled

pub scan_step-requires-clause-answer : goal.scan_step-requires-clause-answer
scan_step-requires-clause-answer c =
    let p = pair_of c.args.p in
    can_try c.args.m.now (scan_of c.args.s.now) p _ c.requires.machine c.requires.formed.formed c.requires.ready
    (c.in_ok-o.ensures ∙ (ap (λ r. gives (rule_of r) p) c.deref.ensures
    ∙ sym (c.requires.canonical.agrees p c.requires.pair c.requires.instance)))

pub returns-clause-slowly : goal.returns-clause-slowly
returns-clause-slowly c =
    let p = pair_of c.args.p in
    let e : combination_of c.in_ok-o.o ≡ combination c.args.m.now p =
    c.in_ok-o.ensures ∙ (ap (λ r. gives (rule_of r) p) c.deref.ensures
    ∙ sym (c.requires.canonical.agrees p c.requires.pair c.requires.instance)) in
    by_same c.scan_step.result (scan_of c.args.s.now) (scan_of c.scan_step.new.s) (combination_of c.in_ok-o.o)
    (combination c.args.m.now p) e c.scan_step.ensures.goes_on
