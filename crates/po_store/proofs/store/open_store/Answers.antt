use Rattle.std.proofs.Common.{◌≡◌, ◌∙◌, [], arith}
use Rattle.std.proofs.lemmas.Grind.{common_steps}
use Rattle.std.proofs.lemmas.List.Elements.{All-push}
use Rattle.po_store.proofs.store.open_store.Goals as goal

pub loop-preserved : goal.loop-preserved
loop-preserved g c = (
  grind (arith, common_steps),
  grind (arith, common_steps),
  rw c.push_reserved.ensures.items
      (All-push (λ s. s ≡ []) c.loop.all.items c.outside.result c.loop.invariant.2
      (c.outside.ensures ∙ (c.again-in-loop.ensures ∙ c.named-head.ensures))),
)
