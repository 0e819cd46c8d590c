use Rattle.std.proofs.Common.{◌≡◌, ℕ, ◌+◌, drop}
use Rattle.po_term.specs.Moves.{instrs_of}
use Rattle.po_model.specs.Placement.{last_read}
use Rattle.po_assign.specs.Reads.{read_at}
use Rattle.po_assign.proofs.reads.note_block.Given as goal

abbrev pub invariant-loop-index : goal.invariant-loop-index
invariant-loop-index l = (v : ℕ) → last_read v (read_at l.last.items v) (l.first + l.index)
    (instrs_of (drop l.index l.xs)) ≡ last_read v (read_at l.fn.last.items v) l.first (instrs_of l.xs)
