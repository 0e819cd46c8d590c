use Rattle.std.proofs.Common.{◌≡◌, [], ◌∷◌, ◌++◌, ◌∙◌, drop, refl}
use Rattle.std.proofs.lemmas.List.Sums.{fold-append}
use Rattle.po_store.proofs.board.with_room.Goals as goal

pub returns-clause-shown : goal.returns-clause-shown
returns-clause-shown g c =
    let before = drop c.in_ok-first.first.behind c.in_ok-first.first.log.items in
    g.met.V.Whole.same _ _
    (rw (
      c.publish-free.ensures.shown,
      c.publish-shown.ensures.pending,
      c.publish-shown.ensures.shown,
      c.in_ok-both.ensures.pending,
      fold-append g.V.Absorb.applied (g.V.Absorb.state c.in_ok-both.both.desk.shown.value) before (c.args.two ∷ []),
    )
    (g.met.V.Whole.next _ c.args.two))
