use Rattle.std.proofs.Common.{◌≡◌}
use Rattle.po_queue_rows.proofs.run.plays.Given as goal

abbrev pub invariant-loop-who : goal.invariant-loop-who
invariant-loop-who g l =
    (l.first.queue ≡ l.initial.first.queue)
    × (l.first.parts ≡ l.initial.first.parts)
    × (l.second.queue ≡ l.initial.second.queue)
    × (l.second.parts ≡ l.initial.second.parts)
    × (l.passes.items ≡ l.initial.passes.items)
