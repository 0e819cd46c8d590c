use Rattle.std.proofs.Common.{◌≡◌, ◌≤◌, ◌-◌, length}
use Rattle.po_term.specs.Moves.{instrs_of}
use Rattle.po_live.specs.Parts.{tells}
use Rattle.po_model.specs.Scanned.{onward}
use Rattle.po_model.specs.declared.machine.Machine.{Machine}
use Rattle.po_slow.specs.States.{stand_at, on}
use Rattle.po_slow.specs.Marks.{AreTrue}
use Rattle.po_slow.proofs.block.go_on.Given as goal

abbrev pub invariant-going : goal.invariant-going
invariant-going l =
    (l.at.done ≤ l.at.next) × (l.at.next ≤ length l.xs)
    × (on onward (stand_at (instrs_of l.xs) (tells l.lives l.b) l.at.done l.at.next l.at.changed)
    ≡ on onward (stand_at (instrs_of l.initial.xs) (tells l.lives l.b) l.initial.at.done l.initial.at.next
    l.initial.at.changed))
    × ((m : Machine) → AreTrue m (instrs_of l.initial.xs) l.initial.marks l.initial.at.done l.initial.at.next
    → AreTrue m (instrs_of l.xs) l.marks l.at.done l.at.next)

abbrev pub decreases-going : goal.decreases-going
decreases-going l = length l.initial.xs - l.at.next
