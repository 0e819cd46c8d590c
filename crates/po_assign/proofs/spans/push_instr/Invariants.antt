use Rattle.std.proofs.Common.{◌≡◌, ◌++◌, drop, map}
use Rattle.po_term.specs.Moves.{moves_of}
use Rattle.po_model.specs.UnitCodes.{written}
use Rattle.po_assign.specs.Reads.{read_at}
use Rattle.po_assign.specs.Spans.{span_at}
use Rattle.po_assign.proofs.spans.push_instr.Given as goal

-- the spans so far, and then those of the transfers behind
abbrev pub invariant-loop-t : goal.invariant-loop-t
invariant-loop-t l = l.spans.items ++ map (span_at (read_at l.last) l.start)
    (written (moves_of (drop l.t-index l.xs))) ≡ l.fn.spans.items ++ map (span_at (read_at l.last) l.start)
    (written (moves_of l.xs))
