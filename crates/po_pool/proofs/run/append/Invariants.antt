use Rattle.std.proofs.Common.{◌≡◌, ◌++◌}
use Rattle.po_pool.proofs.run.append.Given as goal

-- what is there, with what is still to come, is the whole
abbrev pub invariant-loop-x : goal.invariant-loop-x
invariant-loop-x g l = l.xs.items ++ l.x-iterator.rest.items ≡ l.initial.xs.items ++ l.fn.more.items
