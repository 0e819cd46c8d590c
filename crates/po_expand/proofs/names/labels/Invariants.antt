use Rattle.std.proofs.Common.{◌≡◌, ◌≤◌, drop, length}
use Rattle.std.specs.List.{flat_map}
use Rattle.po_ir.specs.Ops.{label_in, labels_of}
use Rattle.po_model.specs.Naive.{names_behind, each_once}
use Rattle.po_expand.proofs.names.labels.Given as goal

abbrev pub invariant-ops : goal.invariant-ops
invariant-ops l = record {
  names : names_behind l.all.names.items (flat_map label_in (drop l.op-index l.ops)) ≡ each_once (labels_of l.ops);
  table : l.all.table ≡ l.all.names.items;
  few : length l.all.names.items ≤ l.op-index;
}
