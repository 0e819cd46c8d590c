use Rattle.std.proofs.Common.{◌≡◌, refl, sym, ◌∙◌, ap, arith}
use mathlib.Core.Logic.{inr}
use Rattle.std.specs.Arc.{arc_value}
use Rattle.std.proofs.lemmas.Result.{IfOk-weaker}
use Rattle.po_model.specs.Pairs.{pair_of}
use Rattle.po_model.specs.Holed.{rule_of}
use Rattle.po_model.specs.Generalised.{generalised}
use Rattle.po_model.specs.Lookups.{FitsRule}
use Rattle.po_settle.proofs.Texts.{text_by, ticks_by, same_rule}
use Rattle.po_settle.proofs.text.miss_text.Goals as goal

pub returns-in-Some-clause-text : goal.returns-in-Some-clause-text
returns-in-Some-clause-text g c =
    let p = pair_of c.args.p.now in
    let f : FitsRule (g.R.Lookup.rules c.args.rules.now) p (rule_of (arc_value c.in-Some.rule.now)) =
    rw c.in-Some.is at c.in_ok-rule.ensures in
    let e : rule_of c.deref.result.now ≡ generalised (arc_value c.args.m.now) p =
    ap rule_of c.deref.ensures ∙ same_rule (arc_value c.args.m.now) _ p _ c.requires.canonical c.requires.pair f in
    text_by c.print_rule.result (rule_of c.deref.result.now) (generalised (arc_value c.args.m.now) p) e
    c.print_rule.ensures

pub returns-in-Some-clause-ticks : goal.returns-in-Some-clause-ticks
returns-in-Some-clause-ticks g c =
    let p = pair_of c.args.p.now in
    let f : FitsRule (g.R.Lookup.rules c.args.rules.now) p (rule_of (arc_value c.in-Some.rule.now)) =
    rw c.in-Some.is at c.in_ok-rule.ensures in
    ticks_by c.print_rule.result (g.R.Lookup.rules c.args.rules.now) p (rule_of (arc_value c.in-Some.rule.now))
    c.args.steps.now f
