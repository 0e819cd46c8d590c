use Rattle.std.proofs.Common.{◌≡◌, ◌+◌, ◌++◌, drop}
use Rattle.po_term.specs.Moves.{instrs_of}
use Rattle.po_assign.specs.Reads.{read_at}
use Rattle.po_assign.specs.Spans.{spans_from}
use Rattle.po_assign.proofs.spans.push_block.Given as goal

-- the spans so far, and then those of the instructions behind
abbrev pub invariant-loop-index : goal.invariant-loop-index
invariant-loop-index l = l.spans.items ++ spans_from (read_at l.last) (l.first + l.index)
    (instrs_of (drop l.index l.xs)) ≡ l.fn.spans.items ++ spans_from (read_at l.last) l.first (instrs_of l.xs)
