use Rattle.std.proofs.Common.{◌≡◌, ◌≤◌, false, drop, length}
use Rattle.po_term.specs.Moves.{instrs_of}
use Rattle.po_live.specs.Flags.{cc_before}
use Rattle.po_live.proofs.cc.reads_first.Given as goal

abbrev pub invariant-loop-i : goal.invariant-loop-i
invariant-loop-i l = (l.i ≤ length l.xs) × (l.live ≡ cc_before (instrs_of (drop l.i l.xs)) false)

abbrev pub decreases-loop-i : goal.decreases-loop-i
decreases-loop-i l = l.i
