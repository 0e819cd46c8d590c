use Rattle.po_term.specs.Terms.{tree_of}
use Rattle.po_simplify.proofs.Worths.{simple_kept}
use Rattle.po_simplify.proofs.terms.simplify.Goals as goal

pub returns-clause-kept : goal.returns-clause-kept
returns-clause-kept c = λ s fits. simple_kept (tree_of c.args.t) (tree_of c.in_ok-r.r) c.in_ok-r.ensures.made s fits
    c.in_ok-r.ensures.fits
