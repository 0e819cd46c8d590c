use Rattle.std.proofs.Common.{MatchOption, subst}
use Rattle.std.specs.Arc.{arc_value}
use Rattle.po_model.specs.Holed.{rule_of}
use Rattle.po_model.specs.Lookups.{FitsRule, NoneFits}
use Rattle.po_model.specs.Pairs.{pair_of}
use Rattle.po_opt.proofs.Relooking.{found_rule}
use Rattle.po_opt.proofs.relook.has_rule.Goals as goal

pub returns-in-Some-clause-found : goal.returns-in-Some-clause-found
returns-in-Some-clause-found g c e =
    let rules = g.T.Lookup.rules c.args.rules.now in
    let p = pair_of c.args.hit.now.pair in
    found_rule (g.T.Lookup.machine c.args.rules.now) rules c.args.hit.now (rule_of (arc_value c.in-Some.field-0.now))
    c.requires.canonical c.requires.hit
    (subst (λ o. MatchOption o (NoneFits rules p) (λ r. FitsRule rules p (rule_of (arc_value r.now))))
    c.in-Some.is c.in_ok-look.ensures)
