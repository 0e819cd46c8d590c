use Rattle.std.proofs.Common.{◌≡◌, ℕ, ◌+◌, drop, length}
use Rattle.po_model.specs.Placement.{last_read}
use Rattle.po_assign.specs.Reads.{read_at}
use Rattle.po_assign.proofs.Lists.{all_of}
use Rattle.po_assign.proofs.reads.last_reads.Given as goal

abbrev pub invariant-loop-block : goal.invariant-loop-block
invariant-loop-block l = record {
  last : (v : ℕ) → last_read v (read_at l.last.items v) l.first (all_of (drop l.block-index l.blocks)) ≡ last_read v 0
      0 (all_of l.blocks);
  number : l.first + length (all_of (drop l.block-index l.blocks)) ≡ length (all_of l.blocks);
}
