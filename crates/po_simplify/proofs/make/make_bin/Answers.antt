use Rattle.po_term.specs.Terms.{tree_of}
use Rattle.po_simplify.proofs.Worths.{binary_kept}
use Rattle.po_simplify.proofs.make.make_bin.Goals as goal

pub returns-clause-kept : goal.returns-clause-kept
returns-clause-kept c = λ s fits h i. binary_kept c.args.op (tree_of c.args.a) (tree_of c.args.b)
    (tree_of c.in_ok-r.r) c.in_ok-r.ensures s fits h i
