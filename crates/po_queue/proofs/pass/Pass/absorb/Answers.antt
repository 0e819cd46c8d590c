use Rattle.std.proofs.Common.{rules, refl, sym, ap, ◌∙◌, arith, ◌<◌}
use Rattle.po_queue.specs.Passes.{PassView, QueueId}
use Rattle.po_queue.proofs.Accounts
use Rattle.po_queue.proofs.Tallies
use Rattle.po_queue.proofs.pass.Pass.absorb.Goals as goal

pub absorb-requires-clause-rule : goal.absorb-requires-clause-rule
absorb-requires-clause-rule g c = Accounts.merges _ _ _ _ c.self.invariant.1

pub split_pass-whole-requires : goal.split_pass-whole-requires
split_pass-whole-requires g c = (
  search rules,
  (
    search rules,
    (
      ap (λ (p : PassView g.row.T.Denot). p.queue.count) c.other.view_is
          ∙ (ap (λ (e : QueueId). e.count) c.requires.same ∙ sym c.requires.count),
      Tallies.wholes _ _,
    ),
  ),
)

pub join_pass-requires : goal.join_pass-requires
join_pass-requires g c = (
  search rules,
  (
    search rules,
    (
      (
        ap (λ (p : PassView g.row.T.Denot). p.queue.count) c.self.view_is ∙ sym c.requires.count,
        c.split_pass-whole.ensures.given.0
            ∙ (ap (λ (p : PassView g.row.T.Denot). p.queue.count) c.other.view_is
            ∙ (ap (λ (e : QueueId). e.count) c.requires.same
            ∙ sym (ap (λ (p : PassView g.row.T.Denot). p.queue.count) c.self.view_is))),
        c.split_pass-whole.ensures.given.2,
      ),
      Tallies.merges _ _ _ _ (rw c.self.invariant.2 c.self.invariant.1),
    ),
  ),
)
