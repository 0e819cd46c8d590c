use Rattle.std.proofs.Common.{rules, ap, sym, ◌∙◌, arith, ◌<◌}
use Rattle.po_queue.specs.Passes.{PassView}
use Rattle.po_queue.proofs.Accounts
use Rattle.po_queue.proofs.Tallies
use Rattle.po_queue.proofs.pass.Pass.cut.Goals as goal

pub another-account-requires-clause-rule : goal.another-account-requires-clause-rule
another-account-requires-clause-rule g c
    = Accounts.forks _ _ (rw (ap (λ (p : PassView g.row.T.Denot). p.parts) c.self.view_is) c.requires.many)

pub split_pass-tally-requires : goal.split_pass-tally-requires
split_pass-tally-requires g c = (
  search rules,
  (
    search rules,
    (
      ap (λ (p : PassView g.row.T.Denot). p.queue.count) c.self.view_is ∙ sym c.requires.count,
      Tallies.forks _ _ (rw (
        c.self.invariant.2,
        ap (λ (p : PassView g.row.T.Denot). p.parts) c.self.view_is,
      ) c.requires.many),
    ),
  ),
)
