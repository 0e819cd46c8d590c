use Rattle.std.proofs.Common.{subst, rules}
use Rattle.po_term.specs.Terms.{tree_of}
use Rattle.po_term.specs.Moves.{move_of}
use Rattle.po_model.specs.Holed.{values_of}
use Rattle.po_model.specs.Shape.{meet_tree, meet_move}
use Rattle.po_skel.specs.Few.{HasFew}
use Rattle.po_skel.proofs.Numbered.{few_register, few_first, few_label}
use Rattle.po_skel.proofs.numbering.number_transfer.Goals as goal

pub number_register-requires : goal.number_register-requires
number_register-requires c =
    few_register (values_of c.args.v.now) c.in-Set.r (tree_of c.in-Set.x)
    (subst (λ t. HasFew (meet_move (values_of c.args.v.now) (move_of t))) c.in-Set.is c.requires)

pub number_term-requires-in-Cc : goal.number_term-requires-in-Cc
number_term-requires-in-Cc c =
    few_first (values_of c.args.v.now) (tree_of c.in-Cc.x) (tree_of c.in-Cc.y)
    (subst (λ t. HasFew (meet_move (values_of c.args.v.now) (move_of t))) c.in-Cc.is c.requires)

pub number_term-requires-in-Store : goal.number_term-requires-in-Store
number_term-requires-in-Store c =
    few_first (values_of c.args.v.now) (tree_of c.in-Store.x) (tree_of c.in-Store.y)
    (subst (λ t. HasFew (meet_move (values_of c.args.v.now) (move_of t))) c.in-Store.is c.requires)

pub number_term-requires-in-If-Two-default-default : goal.number_term-requires-in-If-Two-default-default
number_term-requires-in-If-Two-default-default c =
    let two = c.in-If-Two-default-default in
    let few : HasFew (meet_tree (meet_tree (values_of c.args.v.now) (tree_of two.x)) (tree_of two.y)) =
    search (rules, few_label, c.requires) in
    few_first (values_of c.args.v.now) (tree_of two.x) (tree_of two.y) few
