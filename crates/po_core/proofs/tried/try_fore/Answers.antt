use Rattle.std.proofs.Common.{map, take, arith, sym, subst}
use Rattle.std.specs.Arc.{arc_value}
use Rattle.std.proofs.lemmas.List.Elements.{All-contains, All-take}
use Rattle.po_model.specs.Pairs.{pair_of}
use Rattle.po_model.specs.Holed.{rule_of}
use Rattle.po_model.specs.Canonical.{Canonical}
use Rattle.po_model.specs.Lookups.{FitsRule, NoneFits}
use Rattle.po_slow.specs.States.{scan_of}
use Rattle.po_table.specs.Tables.{shared}
use Rattle.po_core.specs.Fores.{HasNext}
use Rattle.po_core.specs.Scans.{IsReadyAt}
use Rattle.po_core.specs.Views.{fore_of}
use Rattle.po_core.proofs.Stating.{shared_first}
use Rattle.po_core.proofs.Trying.{went_hit, went_miss}
use Rattle.po_core.proofs.tried.try_fore.Goals as goal

pub fitting-requires-clause-first : goal.fitting-requires-clause-first
fitting-requires-clause-first c =
    let r : IsReadyAt (map scan_of c.deref.result.now) c.args.f.now.at (pair_of c.in-Some-2.p)
    = rw c.in-Some-2.is at c.in_ok-p.ensures in
    r.formed.first

pub fitting-requires-clause-second : goal.fitting-requires-clause-second
fitting-requires-clause-second c =
    let r : IsReadyAt (map scan_of c.deref.result.now) c.args.f.now.at (pair_of c.in-Some-2.p)
    = rw c.in-Some-2.is at c.in_ok-p.ensures in
    r.formed.second

pub try_hit-requires-clause-canonical : goal.try_hit-requires-clause-canonical
try_hit-requires-clause-canonical c =
    let p = pair_of c.in-Some-2.p in
    let m = c.args.m.now in
    let n = c.in-Some.shown in
    let rs = shared c.args.published.now in
    let r = rule_of (arc_value c.in-Some-3.rule.now) in
    let f : FitsRule (shared (take n c.args.published.now)) p r = rw c.in-Some-3.is at c.in_ok-rule.ensures in
    let g : FitsRule (take n rs) p r = subst (λ xs. FitsRule xs p r) (shared_first n c.args.published.now) f in
    subst (λ q. Canonical m (rule_of q)) (sym c.deref-in-Some-3.ensures)
    (All-contains (Canonical m) (take n rs) r (All-take (Canonical m) n rs c.requires.canonical) g.listed)

pub returns-in-Some-3-clause-went : goal.returns-in-Some-3-clause-went
returns-in-Some-3-clause-went c =
    let p = pair_of c.in-Some-2.p in
    let n = c.in-Some.shown in
    let rs = shared c.args.published.now in
    let q = rule_of (arc_value c.in-Some-3.rule.now) in
    let f : FitsRule (shared (take n c.args.published.now)) p q = rw c.in-Some-3.is at c.in_ok-rule.ensures in
    let g : FitsRule (take n rs) p (rule_of c.deref-in-Some-3.result.now)
    = subst (λ r. FitsRule (take n rs) p (rule_of r)) (sym c.deref-in-Some-3.ensures)
    (subst (λ xs. FitsRule xs p q) (shared_first n c.args.published.now) f) in
    let r : IsReadyAt (map scan_of c.deref.result.now) c.args.f.now.at p = rw c.in-Some-2.is at c.in_ok-p.ensures in
    let ready : IsReadyAt (map scan_of c.args.f.now.scans.items) c.args.f.now.at p
    = subst (λ xs. IsReadyAt (map scan_of xs) c.args.f.now.at p) c.deref.ensures.value r in
    let next : HasNext c.args.f.now.tries = omega arith in
    went_hit c.args.m.now rs (fore_of c.args.f.now) (fore_of c.try_hit.new.f) n p c.in-Some.is ready next _
    c.try_hit.result
    (rule_of c.deref-in-Some-3.result.now) g c.try_hit.ensures.went

pub returns-in-None-clause-went : goal.returns-in-None-clause-went
returns-in-None-clause-went c =
    let p = pair_of c.in-Some-2.p in
    let n = c.in-Some.shown in
    let rs = shared c.args.published.now in
    let f : NoneFits (shared (take n c.args.published.now)) p = rw c.in-None.is at c.in_ok-rule.ensures in
    let g : NoneFits (take n rs) p = subst (λ xs. NoneFits xs p) (shared_first n c.args.published.now) f in
    let r : IsReadyAt (map scan_of c.deref.result.now) c.args.f.now.at p = rw c.in-Some-2.is at c.in_ok-p.ensures in
    let ready : IsReadyAt (map scan_of c.args.f.now.scans.items) c.args.f.now.at p
    = subst (λ xs. IsReadyAt (map scan_of xs) c.args.f.now.at p) c.deref.ensures.value r in
    let next : HasNext c.args.f.now.tries = omega arith in
    went_miss c.args.m.now rs (fore_of c.args.f.now) (fore_of c.try_miss.new.f) n p c.in-Some.is ready next _
    c.try_miss.result g
    c.try_miss.ensures.went
