use Rattle.std.proofs.Common.{◌≡◌}
use Rattle.std.specs.Arc.{arc_value}
use Rattle.po_table.specs.Tables.{rules_of}
use Rattle.po_gen.proofs.Counting.{IsCounting}
use Rattle.po_gen.proofs.summing.count.Given as goal

-- the units so far are counted
abbrev pub invariant-loop-k : goal.invariant-loop-k
invariant-loop-k g l = record {
  machine : l.table.0 ≡ arc_value l.fn.machine;
  counting : IsCounting (arc_value l.fn.machine) l.seed l.k l.tally (rules_of l.table);
}
