use Rattle.std.proofs.Common.{◌≡◌, ◌+◌}
use Rattle.std.specs.List.{sum_by}
use Rattle.po_opt.proofs.rest.gather_all.Given as goal

-- what is joined, with what is still to come, is the whole
abbrev pub invariant-loop-share : goal.invariant-loop-share
invariant-loop-share g l =
    (l.publisher.parts + sum_by (λ s. s.parts) l.share-iterator.rest.items
    ≡ l.initial.publisher.parts + sum_by (λ s. s.parts) l.fn.shares.items)
    × (l.publisher.amount + sum_by (λ s. s.amount) l.share-iterator.rest.items
    ≡ l.initial.publisher.amount + sum_by (λ s. s.amount) l.fn.shares.items)
    × (l.publisher.rules ≡ l.initial.publisher.rules)
    × (l.publisher.log ≡ l.initial.publisher.log)
