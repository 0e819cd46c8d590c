use Rattle.std.proofs.Common.{◌≡◌, ◌++◌}
use Rattle.po_opt.proofs.works.append.Given as goal

-- what is there, with what is still to come, is the whole
abbrev pub invariant-loop-pair : goal.invariant-loop-pair
invariant-loop-pair l =
    l.misses.items ++ l.pair-iterator.rest.items ≡ l.initial.misses.items ++ l.fn.others.items
