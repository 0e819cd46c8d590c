use Rattle.std.proofs.Common.{◌≡◌}
use Rattle.po_opt.specs.Relooked.{AreRelooking}
use Rattle.po_opt.proofs.relook.look_again.Given as goal

abbrev pub invariant-loop-tally : goal.invariant-loop-tally
invariant-loop-tally g l =
    AreRelooking (g.T.Lookup.machine l.rules) (g.T.Lookup.rules l.rules) l.fn.tallies.items
    l.tally-iterator.rest.items l.done (g.P.Post.taken l.initial.post) (g.P.Post.taken l.post)
    (g.P.Post.fulls l.initial.post) (g.P.Post.fulls l.post)
    × (g.P.Post.home l.post ≡ g.P.Post.home l.initial.post)
