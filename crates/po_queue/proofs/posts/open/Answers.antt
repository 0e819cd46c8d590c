use Rattle.std.proofs.Common.{rules, ◌≡◌, ◌-◌, ◌+◌, ap, ◌∙◌, arith}
use Rattle.std.proofs.lemmas.Grind.{common_steps}
use Rattle.std.proofs.lemmas.List.Elements.{All-push}
use Rattle.po_queue.specs.Balance.{all_parts}
use Rattle.po_queue.specs.Passes.{PassView, fresh_pass, new_pass}
use Rattle.po_queue.specs.Gathered.{after_cut}
use Rattle.po_queue.proofs.Accounts
use Rattle.po_queue.proofs.Tallies
use Rattle.po_queue.proofs.posts.open.Goals as goal

pub ruled-requires-clause-rule : goal.ruled-requires-clause-rule
ruled-requires-clause-rule g c = Accounts.begins

pub ruled-requires-2 : goal.ruled-requires-2
ruled-requires-2 g c = (search rules, (search rules, Tallies.begins))

pub loop-preserved : goal.loop-preserved
loop-preserved g c =
    let e : all_parts - c.loop.counter - 1 ≡ all_parts - (c.loop.counter + 1) = omega arith in (
      c.cut.ensures.kept ∙ (ap after_cut c.loop.invariant.0 ∙ ap (fresh_pass c.first-keeper.result.queue) e),
      grind (arith, common_steps),
      grind (arith, common_steps),
      rw c.push_reserved.ensures.items
          (All-push (λ (p : PassView g.row.T.Denot). p ≡ new_pass c.first-keeper.result.queue)
          c.loop.all.items c.cut.result c.loop.invariant.3
          (c.cut.ensures.given ∙ ap (λ (p : PassView g.row.T.Denot). new_pass p.queue) c.loop.invariant.0)),
    )
