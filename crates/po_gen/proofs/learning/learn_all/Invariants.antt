use Rattle.std.proofs.Common.{◌≡◌, map, take}
use Rattle.po_model.specs.Pairs.{pair_of}
use Rattle.po_table.specs.Tables.{rules_of}
use Rattle.po_gen.specs.Learnt.{Learns}
use Rattle.po_gen.proofs.learning.learn_all.Given as goal

-- the rules of the pairs so far are learned
abbrev pub invariant-loop-p : goal.invariant-loop-p
invariant-loop-p g l = record {
  machine : l.table.0 ≡ l.initial.table.0;
  learnt : Learns l.initial.table.0 (rules_of l.initial.table) (rules_of l.table)
      (map pair_of (take l.p-index l.pairs));
}
