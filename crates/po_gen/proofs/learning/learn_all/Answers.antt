use Rattle.std.proofs.Common.{◌∙◌, ◌<◌, length, refl, arith}
use Rattle.po_table.specs.Tables.{rules_of}
use Rattle.po_gen.proofs.RulesLearnt.{pair_at, learns_none, learns_next, learns_whole}
use Rattle.po_gen.proofs.learning.learn_all.Goals as goal

pub loop-p-init : goal.loop-p-init
loop-p-init g c = record { machine = refl; learnt = learns_none c.args.table.now.0 (rules_of c.args.table.now) }

pub learn-requires-clause-pair : goal.learn-requires-clause-pair
learn-requires-clause-pair g c =
    let h : c.loop-p.p-index < length c.args.pairs.now = omega arith in
    pair_at c.args.pairs.now c.loop-p.p-index c.p-item.result h c.p-item.is c.requires.pairs

pub loop-p-preserved : goal.loop-p-preserved
loop-p-preserved g c = record {
  machine = c.in_ok-learn.ensures.machine ∙ c.loop-p.invariant.machine;
  learnt = learns_next c.args.table.now.0 c.loop-p.table.0 c.args.pairs.now c.loop-p.p-index c.p-item.result
      (rules_of c.args.table.now) (rules_of c.loop-p.table) (rules_of c.learn.new.table) (omega arith) c.p-item.is
      c.loop-p.invariant.machine c.loop-p.invariant.learnt c.in_ok-learn.ensures.put;
}

pub returns-clause-learnt : goal.returns-clause-learnt
returns-clause-learnt g c = learns_whole c.args.table.now.0 c.args.pairs.now c.loop-p.p-index
    (rules_of c.args.table.now) (rules_of c.loop-p.table) (omega arith) c.loop-p.invariant.learnt
