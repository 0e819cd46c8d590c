use Rattle.std.proofs.Common.{rules, sym, subst, ap}
use Rattle.po_term.specs.Tree.{tree_size}
use Rattle.po_term.specs.Terms.{tree_of}
use Rattle.po_model.specs.Holed.{values_of}
use Rattle.po_model.specs.Shape.{meet_tree}
use Rattle.po_skel.specs.Few.{HasFew}
use Rattle.po_skel.proofs.Numbered.{few_first}
use Rattle.po_skel.proofs.binding.+bind_term.Goals as goal

pub bind_term-requires-then-eq-2 : goal.bind_term-requires-then-eq-2
bind_term-requires-then-eq-2 t c =
    let both = subst (λ x. HasFew (meet_tree (values_of c.args.v.now) (tree_of x))) c.in-Bin-Bin.is-1 c.requires in
    let first = few_first (values_of c.args.v.now) (tree_of c.in-Bin-Bin.y.value) (tree_of c.in-Bin-Bin.w.value)
    both in
    let few = subst (λ x. HasFew (meet_tree (values_of c.args.v.now) (tree_of x))) (sym c.deref-then-eq-2-3.ensures)
    first in
    let size = ap (λ x. tree_size (tree_of x)) c.in-Bin-Bin.is-1 in
    let same = ap (λ x. tree_size (tree_of x)) c.deref-then-eq-2-3.ensures in
    search (rules, few, size, same)
