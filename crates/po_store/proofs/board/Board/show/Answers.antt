use Rattle.std.proofs.Common.{◌≡◌, [], ◌∷◌, ◌++◌, ◌∙◌, drop, refl}
use Rattle.std.proofs.lemmas.List.Sums.{fold-append}
use Rattle.po_store.proofs.board.Board.show.Goals as goal

pub returns-in_default-replace : goal.returns-in_default-replace
returns-in_default-replace g c =
    let shown = c.append-writer.result.desk.shown.value in
    let behind = drop c.in-Some.writer.behind c.in-Some.writer.log.items in
    rw c.replace.ensures.after (
      refl,
      g.met.V.Whole.same _ _
          (rw (
            c.publish-writer.ensures.shown,
            c.append-writer.ensures.pending,
            fold-append g.V.Absorb.applied (g.V.Absorb.state shown) behind (c.args.version ∷ []),
          )
          (g.met.V.Whole.next _ c.args.version)),
    )
