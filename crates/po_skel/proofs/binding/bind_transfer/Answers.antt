use Rattle.std.proofs.Common.{subst}
use Rattle.po_term.specs.Terms.{tree_of}
use Rattle.po_term.specs.Moves.{move_of}
use Rattle.po_model.specs.Holed.{values_of}
use Rattle.po_model.specs.Shape.{meet_move}
use Rattle.po_skel.specs.Few.{HasFew}
use Rattle.po_skel.proofs.Numbered.{few_register}
use Rattle.po_skel.proofs.binding.bind_transfer.Goals as goal

pub number_register-requires : goal.number_register-requires
number_register-requires c =
    few_register (values_of c.args.v.now) c.in-Set-Set.r (tree_of c.in-Set-Set.y)
    (subst (λ t. HasFew (meet_move (values_of c.args.v.now) (move_of t))) c.in-Set-Set.is-1 c.requires)
