use Rattle.std.proofs.Common.{◌≡◌, ◌++◌}
use Rattle.po_subst.proofs.choosing.live_registers.Given as goal

-- those so far, with those to come, are all
abbrev pub invariant-loop-r : goal.invariant-loop-r
invariant-loop-r l = l.regs.items ++ l.r-iterator ≡ l.live.regs.keys
