use Rattle.std.proofs.Common.{◌≡◌, ◌≤◌, drop, length}
use Rattle.std.specs.List.{flat_map}
use Rattle.po_model.specs.Naive.{sym_in, names_behind, each_once}
use Rattle.po_expand.proofs.names.syms.Given as goal

abbrev pub invariant-ops : goal.invariant-ops
invariant-ops l = record {
  names : names_behind l.all.names.items (flat_map sym_in (drop l.op-index l.ops)) ≡ each_once (flat_map sym_in l.ops);
  table : l.all.table ≡ l.all.names.items;
  few : length l.all.names.items ≤ l.op-index;
}
