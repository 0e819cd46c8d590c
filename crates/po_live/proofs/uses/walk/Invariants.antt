use Rattle.std.proofs.Common.{◌≡◌, ◌≤◌, drop, length}
use Rattle.po_term.specs.Moves.{instrs_of}
use Rattle.po_model.specs.declared.var.Var.{Var}
use Rattle.po_live.specs.Sets.{holds}
use Rattle.po_live.specs.Sets.{back}
use Rattle.po_live.proofs.uses.walk.Given as goal

abbrev pub invariant-loop-i : goal.invariant-loop-i
invariant-loop-i l =
    (l.i ≤ length l.xs) × ((q : Var) → holds l.live q ≡ back (instrs_of (drop l.i l.xs)) (holds l.initial.live) q)

abbrev pub decreases-loop-i : goal.decreases-loop-i
decreases-loop-i l = l.i
