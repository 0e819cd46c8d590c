use Rattle.std.proofs.Common.{◌≡◌, map, take, sym, ◌∙◌, ap, subst, arith}
use Rattle.std.proofs.lemmas.List.{with_items_is}
use Rattle.std.specs.Arc.{arc_value}
use Rattle.po_model.specs.Lookups.{AreCanonical}
use Rattle.po_table.specs.Tables.{shared}
use Rattle.po_core.specs.Fores.{CanTry, HasTried, AtFore, SetFore}
use Rattle.po_core.specs.Views.{core_of, fore_of}
use Rattle.po_core.specs.Went.{Went}
use Rattle.po_core.proofs.Kept.{published_canonical}
use Rattle.po_core.proofs.Stating.{shared_first, on_fore_or}
use Rattle.po_core.proofs.state.Core.try_one.Goals as goal

pub try_at-requires-clause-canonical : goal.try_at-requires-clause-canonical
try_at-requires-clause-canonical c =
    let s = c.args.self.now in
    let e : shared (take s.published c.deref-2.result.now) ≡ take s.published (shared s.rules.items)
    = ap (λ xs. shared (take s.published xs)) c.deref-2.ensures.value ∙ shared_first s.published s.rules.items in
    subst (λ m. AreCanonical m (shared (take s.published c.deref-2.result.now))) (sym c.deref.ensures)
    (subst (AreCanonical (arc_value s.machine)) (sym e) (published_canonical (core_of s) c.requires.parts))

pub returns-clause-went : goal.returns-clause-went
returns-clause-went c =
    let s = c.args.self.now in
    let i = c.args.fore in
    let r = c.try_at.result in
    let rs = take s.published (shared s.rules.items) in
    let fs = map fore_of c.deref_mut.result.now in
    let gs = map fore_of c.try_at.new.fores in
    let e : shared (take s.published c.deref-2.result.now) ≡ rs
    = ap (λ xs. shared (take s.published xs)) c.deref-2.ensures.value ∙ shared_first s.published s.rules.items in
    let by_rules : Went r (AtFore fs i (CanTry rs)) (SetFore fs i (HasTried c.deref.result.now rs) gs) (gs ≡ fs)
    = subst (λ xs. Went r (AtFore fs i (CanTry xs)) (SetFore fs i (HasTried c.deref.result.now xs) gs) (gs ≡ fs)) e
    c.try_at.ensures.went in
    let by_machine : Went r (AtFore fs i (CanTry rs)) (SetFore fs i (HasTried (arc_value s.machine) rs) gs) (gs ≡ fs)
    = subst (λ m. Went r (AtFore fs i (CanTry rs)) (SetFore fs i (HasTried m rs) gs) (gs ≡ fs)) c.deref.ensures
    by_rules in
    on_fore_or (core_of s) i fs gs _ (ap (map fore_of) c.deref_mut.ensures.value)
    (ap (map fore_of) (with_items_is s.fores c.try_at.new.fores
    (omega (arith, c.try_at.auto.fores, c.deref_mut.ensures.len))))
    (CanTry rs) (HasTried (arc_value s.machine) rs) r by_machine
