use Rattle.std.proofs.Common.{◌≡◌, [], ◌∷◌, ◌++◌, List, ◌∙◌, ap, sym, subst}
use Rattle.std.specs.Arc.{arc_value}
use Rattle.po_model.specs.declared.rule.Rule.{Rule}
use Rattle.po_store.specs.Published.{plain, AreGood}
use Rattle.po_store.proofs.Grows.{version_next}
use Rattle.po_store.proofs.version.Version.next.Goals as goal

pub invariant_of-result : goal.invariant_of-result
invariant_of-result g c =
    let next : c.add.new.self ≡ c.args.self.now ++ c.args.rule.now ∷ []
    = c.if-not-add.ensures
    ∙ ap (λ (l : List Rule). l ++ c.args.rule.now ∷ []) (c.again-front.ensures ∙ c.self.view_is) in
    let good : AreGood g.L.StoreName.machine (plain c.args.self.now)
    = subst (λ (l : List Rule). AreGood g.L.StoreName.machine (plain l)) c.self.view_is c.self.invariant.2 in
    let v = version_next g.L.StoreName.machine c.args.self.now c.args.rule.now
    (g.T.Lookup.rules (arc_value c.args.table)) good c.requires.canonical c.requires.added in
    rw next (v.0, c.requires.machine, v.1)

pub invariant_of-twin : goal.invariant_of-twin
invariant_of-twin g c = let v = invariant_of-result g c in rw (c.requires.second, c.again.ensures) v
