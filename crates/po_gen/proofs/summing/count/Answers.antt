use Rattle.std.proofs.Common.{◌∙◌, arith}
use Rattle.std.specs.Arc.{arc_value}
use Rattle.po_table.specs.Tables.{rules_of}
use Rattle.po_gen.proofs.Counting.{counting_begin, counting_next_by}
use Rattle.po_gen.proofs.summing.count.Goals as goal

pub loop-k-init : goal.loop-k-init
loop-k-init g c = record {
  machine = c.in_ok-table.ensures.machine;
  counting = counting_begin (arc_value c.args.machine) c.args.seed (rules_of c.in_ok-table.table)
      c.in_ok-table.ensures.rules;
}

pub count_unit-requires-clause-before : goal.count_unit-requires-clause-before
count_unit-requires-clause-before g c =
    omega (arith, c.loop-k.invariant.counting.few, c.requires.units, c.loop-k-test.true)

pub count_unit-requires-clause-after : goal.count_unit-requires-clause-after
count_unit-requires-clause-after g c =
    omega (arith, c.loop-k.invariant.counting.few_after, c.requires.units, c.loop-k-test.true)

pub loop-k-preserved : goal.loop-k-preserved
loop-k-preserved g c = record {
  machine = c.in_ok-tally.ensures.machine ∙ c.loop-k.invariant.machine;
  counting = counting_next_by (arc_value c.args.machine) c.loop-k.table.0 c.args.seed c.loop-k.k c.in_ok-unit.unit
      c.loop-k.tally c.in_ok-tally.tally (rules_of c.loop-k.table) (rules_of c.count_unit.new.table)
      c.loop-k.invariant.machine c.in_ok-unit.ensures.is_it c.loop-k.invariant.counting
      c.in_ok-tally.ensures.counted;
}
