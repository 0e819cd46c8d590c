use Rattle.std.proofs.Common.{ap}
use Rattle.po_model.specs.Pairs.{pair_of}
use Rattle.po_model.specs.Holed.{shape_of, values_of, asked_of, result_of}
use Rattle.po_general.proofs.Made.{rule_made}
use Rattle.po_general.proofs.rule.rule_of_pair.Goals as goal

pub returns : goal.returns
returns c =
    rule_made c.args.m.now (pair_of c.args.p.now) (shape_of c.in_ok-shape.shape) (values_of c.in_ok-shape.values)
    (asked_of c.new.result.items) (asked_of c.combine_p.new.path.asked.items) (result_of c.in_ok-result.result)
    c.in_ok-shape.ensures.0 c.in_ok-shape.ensures.1 (ap asked_of c.new.ensures.items) c.in_ok-result.ensures.0
    c.in_ok-result.ensures.1
