use Rattle.std.proofs.Common.{◌≡◌, ◌+◌, length}
use mathlib.Core.List.{IsPrefix}
use Rattle.po_store.specs.Published.{plain}
use Rattle.po_opt.proofs.rest.learn_rest.Given as goal

-- what is learned, with what is still to come, is the whole
abbrev pub invariant-loop-miss : goal.invariant-loop-miss
invariant-loop-miss g l =
    (l.share.amount + length l.miss-iterator.rest.items ≡ l.initial.share.amount + length l.fn.rest.items)
    × (l.share.parts ≡ l.initial.share.parts)
    × (l.publisher.parts ≡ l.initial.publisher.parts)
    × (l.publisher.amount ≡ l.initial.publisher.amount)
    × IsPrefix (plain l.initial.publisher.rules) (plain l.publisher.rules)
