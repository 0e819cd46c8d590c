use Rattle.std.proofs.Common.{arith, sym, subst, ap}
use Rattle.po_term.specs.Tree.{tree_size}
use Rattle.po_term.specs.Terms.{tree_of}
use Rattle.po_model.specs.Holed.{values_of}
use Rattle.po_model.specs.Shape.{meet_tree}
use Rattle.po_skel.specs.Few.{HasFew}
use Rattle.po_skel.proofs.Numbered.{few_first}
use Rattle.po_skel.proofs.numbering.+number_term.Goals as goal

pub number_term-requires-in-Bin : goal.number_term-requires-in-Bin
number_term-requires-in-Bin t c =
    let both = subst (λ x. HasFew (meet_tree (values_of c.args.v.now) (tree_of x))) c.in-Bin.is c.requires in
    let first = few_first (values_of c.args.v.now) (tree_of c.in-Bin.x.value) (tree_of c.in-Bin.y.value) both in
    let few = subst (λ x. HasFew (meet_tree (values_of c.args.v.now) (tree_of x))) (sym c.deref-in-Bin.ensures)
    first in
    let size = ap (λ x. tree_size (tree_of x)) c.in-Bin.is in
    let same = ap (λ x. tree_size (tree_of x)) c.deref-in-Bin.ensures in
    (omega (arith, c.decreases, size, same), few)
