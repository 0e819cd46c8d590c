use Rattle.std.proofs.Common.{◌≡◌, ℕ, drop, cond}
use Rattle.po_term.specs.Moves.{moves_of}
use Rattle.po_term.specs.declared.term.Reg.TheVariants.{Virt}
use Rattle.po_model.specs.declared.var.Var.TheVariants.{Reg}
use Rattle.po_model.specs.LiveAfter.{reads}
use Rattle.po_assign.specs.Reads.{read_at}
use Rattle.po_assign.proofs.reads.note_instr.Given as goal

abbrev pub invariant-loop-t : goal.invariant-loop-t
invariant-loop-t l = (v : ℕ) → cond (reads (moves_of (drop l.t-index l.xs)) (Reg (Virt v))) l.point
    (read_at l.last.items v) ≡ cond (reads (moves_of l.xs) (Reg (Virt v))) l.point (read_at l.fn.last.items v)
