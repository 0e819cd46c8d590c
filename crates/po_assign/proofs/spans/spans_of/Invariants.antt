use Rattle.std.proofs.Common.{◌≡◌, ◌+◌, ◌++◌, drop, length}
use Rattle.po_assign.specs.Reads.{read_at}
use Rattle.po_assign.specs.Spans.{spans_from}
use Rattle.po_assign.proofs.Lists.{all_of}
use Rattle.po_assign.proofs.spans.spans_of.Given as goal

-- the spans so far, and then those of the blocks behind
abbrev pub invariant-loop-block : goal.invariant-loop-block
invariant-loop-block l = record {
  made : l.spans.items ++ spans_from (read_at l.last) l.first (all_of (drop l.block-index l.blocks)) ≡ spans_from
      (read_at l.last) 0 (all_of l.blocks);
  number : l.first + length (all_of (drop l.block-index l.blocks)) ≡ length (all_of l.blocks);
}
