use Rattle.std.proofs.Common.{◌≡◌, ◌≤◌, ℕ, length, drop}
use Rattle.po_model.specs.Placement.{machine_of}
use Rattle.po_emit.specs.Regs.{machine_at}
use Rattle.po_emit.proofs.names.machine_regs.Given as goal

-- the pairs from i on are in
abbrev pub invariant-loop-i : goal.invariant-loop-i
invariant-loop-i l = (l.i ≤ length l.pairs) × ((v : ℕ) → machine_at l.regs.items v ≡ machine_of (drop l.i l.pairs) v)

abbrev pub decreases-loop-i : goal.decreases-loop-i
decreases-loop-i l = l.i
