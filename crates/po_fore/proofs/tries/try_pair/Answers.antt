use Rattle.std.proofs.Common.{refl}
use Rattle.std.specs.Arc.{arc_value}
use Rattle.po_model.specs.Holed.{rule_of}
use Rattle.po_model.specs.Learning.{Used, Missed}
use Rattle.po_model.specs.Lookups.{FitsRule, NoneFits}
use Rattle.po_model.specs.Pairs.{pair_of}
use Rattle.po_slow.specs.States.{scan_of}
use Rattle.po_fore.proofs.Going.{on_ok_and3, listed_canonical, gains_used, gains_missed}
use Rattle.po_fore.proofs.tries.try_pair.Goals as goal

pub try_by_rule-requires-clause-canonical : goal.try_by_rule-requires-clause-canonical
try_by_rule-requires-clause-canonical g c =
    let f : FitsRule (g.R.Lookup.rules c.args.rules.now) (pair_of c.args.p) (rule_of (arc_value c.in-Some.rule.now)) =
    rw c.in-Some.is at c.in_ok-rule.ensures in
    listed_canonical c.args.m.now _ _ _ c.requires.canonical f

pub returns-in-Some-clause-tried : goal.returns-in-Some-clause-tried
returns-in-Some-clause-tried g c =
    let rs = g.R.Lookup.rules c.args.rules.now in
    let p = pair_of c.args.p in
    let r = rule_of (arc_value c.in-Some.rule.now) in
    let f : FitsRule rs p r = rw c.in-Some.is at c.in_ok-rule.ensures in
    on_ok_and3 c.try_by_rule.result (λ by slowly used. (
      Used p r,
      gains_used c.args.m.now rs (scan_of c.args.s.now)
          (scan_of c.try_by_rule.new.s) c.args.report.now _ c.args.steps.now p r c.requires.ready c.requires.pair f by
          slowly
          used refl,
    )) c.try_by_rule.ensures.goes_on c.try_by_rule.ensures.slowly c.try_by_rule.ensures.used

pub returns-in-None-clause-tried : goal.returns-in-None-clause-tried
returns-in-None-clause-tried g c =
    let rs = g.R.Lookup.rules c.args.rules.now in
    let p = pair_of c.args.p in
    let f : NoneFits rs p = rw c.in-None.is at c.in_ok-rule.ensures in
    on_ok_and3 c.try_slowly.result (λ by missed ticks. (
      Missed p,
      gains_missed c.args.m.now rs (scan_of c.args.s.now)
          (scan_of c.try_slowly.new.s) c.args.report.now _ c.args.steps.now c.try_slowly.new.steps p c.requires.ready
          c.requires.pair f by refl missed ticks,
    )) c.try_slowly.ensures.goes_on c.try_slowly.ensures.missed
    c.try_slowly.ensures.ticks
