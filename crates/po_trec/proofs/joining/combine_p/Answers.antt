use Rattle.std.proofs.Common.{◌∙◌, ap, sym}
use Rattle.po_model.specs.Joined.{AsOne}
use Rattle.po_model.specs.Holed.{hole_moves_of, shape_of}
use Rattle.po_trec.specs.Joint.{joint_of}
use Rattle.po_trec.proofs.Together.{combined_by}
use Rattle.po_trec.proofs.joining.combine_p.Goals as goal

pub returns-in-List : goal.returns-in-List
returns-in-List c =
    combined_by c.args.v.now.consts.items (shape_of c.args.s.now) c.args.m.now
    (AsOne (hole_moves_of c.in-List.xs.items))
    c.as_one.result c.args.path.now c.together_p.new.path c.as_one.new.path
    (ap joint_of (sym c.in-List.is) ∙ c.in_ok-together_p.ensures.0) c.in_ok-together_p.ensures.1
    (rw c.deref.ensures.value at c.as_one.ensures)
