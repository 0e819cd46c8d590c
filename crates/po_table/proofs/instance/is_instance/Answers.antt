use Rattle.std.proofs.Common.{ap}
use Rattle.po_model.specs.Holed.{asked_of, rule_of, values_of}
use Rattle.po_model.specs.Pairs.{pair_of}
use Rattle.po_table.proofs.Answered.{instance_by, no_instance}
use Rattle.po_table.proofs.instance.is_instance.Goals as goal

pub returns-then-is_of_shape : goal.returns-then-is_of_shape
returns-then-is_of_shape c = instance_by (rule_of c.args.r.now) (pair_of c.args.p.now) (values_of c.args.v.now)
    c.deref.result.now c.deref-then-is_of_shape.result.now c.are_answered.result
    (c.is_of_shape.ensures.0 (let is = c.if-is_of_shape.true in cc)) c.requires.values c.deref.ensures.value
    (ap asked_of c.deref-then-is_of_shape.ensures.value) c.are_answered.ensures

pub returns-else-is_of_shape : goal.returns-else-is_of_shape
returns-else-is_of_shape c = no_instance (rule_of c.args.r.now) (pair_of c.args.p.now) c.is_of_shape.result
    (λ s. let yes = c.is_of_shape.ensures.1 s in let no = c.if-is_of_shape.false in absurd (cc)) c.if-is_of_shape.false
