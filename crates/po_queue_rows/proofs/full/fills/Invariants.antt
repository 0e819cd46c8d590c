use Rattle.std.proofs.Common.{◌≡◌}
use Rattle.po_queue_rows.proofs.full.fills.Given as goal

abbrev pub invariant-loop-x : goal.invariant-loop-x
invariant-loop-x g l =
    (l.pass.queue ≡ l.initial.pass.queue)
    × (l.pass.parts ≡ l.initial.pass.parts)
    × (l.passes.items ≡ l.initial.passes.items)
