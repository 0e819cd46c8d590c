use Rattle.std.proofs.Common.{List, ap, sym, subst}
use Rattle.po_model.specs.declared.rule.Rule.{Rule}
use Rattle.po_model.specs.Lookups.{AreCanonical}
use Rattle.po_store.specs.Published.{plain}
use Rattle.po_team.specs.Ways.{WayView}
use Rattle.po_team.proofs.Beginnings.{plain_prefix}
use Rattle.po_team.proofs.way.WayDoor.enter.Goals as goal

pub returns-in-Ok-clause-canonical : goal.returns-in-Ok-clause-canonical
returns-in-Ok-clause-canonical g c = subst (λ (xs : List Rule). AreCanonical g.L.StoreName.machine (plain xs))
    (sym (ap (λ (w : WayView). w.seen) c.within.ensures.is_it)) c.within.ensures.canonical

pub returns-in-Ok-clause-rules : goal.returns-in-Ok-clause-rules
returns-in-Ok-clause-rules g c = plain_prefix c.self.inside.reader c.in-Ok.snapshot
    c.args.self.seen c.within.result.seen (sym (ap (λ (w : WayView). w.seen) c.self.view_is))
    (ap (λ (w : WayView). w.seen) c.within.ensures.is_it) c.in-Ok.ensures.begins

pub returns-in-Ok-clause-told : goal.returns-in-Ok-clause-told
returns-in-Ok-clause-told g c = returns-in-Ok-clause-rules g c
