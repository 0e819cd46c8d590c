use Rattle.std.proofs.Common.{◌≡◌, ◌<◌, length, map, take, drop, None, refl, sym, ◌∙◌, ap, subst, arith}
use Rattle.std.proofs.lemmas.List.{map-set}
use Rattle.po_model.specs.Holed.{rule_of}
use Rattle.po_table.specs.Tables.{shared}
use Rattle.po_core.specs.Events.{HoldsOne, IsOneOrNone}
use Rattle.po_core.specs.Parts.{HoldsFormed}
use Rattle.po_core.specs.Views.{core_of, held_of}
use Rattle.po_core.proofs.Lists.{all_at}
use Rattle.po_core.proofs.Stating.{all_rules, few_rules, learns_pending, still_published, held_at, with_rules, did_so}
use Rattle.po_core.proofs.Stating.{not_holds}
use Rattle.po_core.proofs.state.Core.learn.Goals as goal

pub holds-requires : goal.holds-requires
holds-requires c =
    let s = c.args.self.now in
    let h : c.args.learner < length s.held.items = omega arith in
    record {
      formed = all_at HoldsFormed (map held_of s.held.items) c.args.learner (held_of c.index.result.now)
          (held_at s.held.items c.args.learner c.index.result.now h c.index.ensures) c.requires.held;
    }

pub returns-then-not-branch-clause-went : goal.returns-then-not-branch-clause-went
returns-then-not-branch-clause-went c =
    let s = c.args.self.now in
    let h : c.args.learner < length s.held.items = omega arith in
    let is : rule_of c.deref.result.now ≡ rule_of c.args.l.now.1 = ap rule_of (c.deref.ensures
    ∙ c.rule-rule.ensures.is_it) in (
      λ a. not_holds s.held.items c.args.learner c.index.result.now (rule_of c.args.l.now.1)
          (rule_of c.deref.result.now)
          c.in_ok-holds.field-0 h c.index.ensures c.in_ok-holds.ensures is c.if-not-branch.true a.0,
      refl,
    )

pub returns-clause-went : goal.returns-clause-went
returns-clause-went c =
    let s = c.args.self.now in
    let n = s.published in
    let r = rule_of c.args.l.now.1 in
    let rs = shared s.rules.items in
    let ss = shared c.add_rule.new.rules.items in
    let h : c.args.learner < length s.held.items = omega arith in
    let is : rule_of c.deref.result.now ≡ r = ap rule_of (c.deref.ensures ∙ c.rule-rule.ensures.is_it) in
    let one : HoldsOne (held_of c.index.result.now) r
    = subst (HoldsOne (held_of c.index.result.now)) is (c.in_ok-holds.ensures.0 c.if-not-branch.false) in
    let w = did_so c.in_ok-add_rule.field-0 _ _ _ c.in_ok-add_rule.ensures.went c.if-not-branch-2.false in
    let few = few_rules n s.rules.items c.requires.formed.within in (
      (
        (held_of c.index.result.now, held_at s.held.items c.args.learner c.index.result.now h c.index.ensures, one),
        w.0 ∙ c.deref-2.ensures,
      ),
      (
        subst (λ xs. IsOneOrNone xs r) (sym (all_rules n rs)) w.1.0,
        learns_pending n rs ss r few w.1.0 w.1.1,
        with_rules (core_of s) (take n ss) (take n rs) (drop n ss) _ _ (still_published n rs ss r few w.1.0 w.1.1)
            (map-set held_of s.held.items c.args.learner None),
      ),
    )
