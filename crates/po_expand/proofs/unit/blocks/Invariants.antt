use Rattle.std.proofs.Common.{◌≡◌, ◌≤◌, drop, length}
use Rattle.po_model.specs.Naive.{blocks_in}
use Rattle.po_expand.specs.Fits.{Fits}
use Rattle.po_expand.specs.Steps.{between, code_with}
use Rattle.po_expand.proofs.unit.blocks.Given as goal

-- the blocks so far, and then those of the operations to come
abbrev pub invariant-ops : goal.invariant-ops
invariant-ops l = record {
  code : code_with l.labels.table l.syms.table (between l.expansion) (drop l.op-index l.ops)
      ≡ blocks_in l.labels.table l.syms.table l.ops;
  fits : Fits (length l.expansion.stack.items) (drop l.op-index l.ops);
  next : l.expansion.next ≤ l.op-index;
}
