use Rattle.po_term.specs.Tree.{tree_size}
use Rattle.po_term.specs.Terms.{tree_of}
use Rattle.po_skel.proofs.numbering.+number_term.Given as goal

abbrev pub decreases-number_term : goal.decreases-number_term
decreases-number_term l = tree_size (tree_of l.t.now)
