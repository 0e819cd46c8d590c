use Rattle.po_term.specs.Kinds.{exprs}
use Rattle.po_simplify.proofs.PlusStages.{plus_is_staged}
use Rattle.po_model.specs.Holed.{hole_tree_of}
use Rattle.po_model.specs.Generalised.{same_hole_register}
use Rattle.po_tsimp.proofs.sums.add.Goals as goal

pub returns : goal.returns
returns c =
    rw (plus_is_staged (exprs c.args.holes.now) same_hole_register (hole_tree_of c.args.a) (hole_tree_of c.args.b))
    c.in_ok-r.ensures
