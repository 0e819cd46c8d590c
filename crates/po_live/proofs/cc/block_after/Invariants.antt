use Rattle.std.proofs.Common.{◌≡◌, ◌≤◌, drop, length, reverse}
use Rattle.po_term.specs.Moves.{instrs_of}
use Rattle.po_live.specs.Flags.{cc_before, cc_after}
use Rattle.po_live.proofs.cc.block_after.Given as goal

abbrev pub invariant-loop-i : goal.invariant-loop-i
invariant-loop-i l = record {
  within : l.i ≤ length l.xs;
  live : l.live ≡ cc_before (instrs_of (drop l.i l.xs)) l.out;
  after : reverse l.after.items ≡ cc_after (instrs_of (drop l.i l.xs)) l.out;
}

abbrev pub decreases-loop-i : goal.decreases-loop-i
decreases-loop-i l = l.i
