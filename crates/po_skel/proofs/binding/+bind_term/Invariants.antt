use Rattle.po_term.specs.Tree.{tree_size}
use Rattle.po_term.specs.Terms.{tree_of}
use Rattle.po_skel.proofs.binding.+bind_term.Given as goal

abbrev pub decreases-bind_term : goal.decreases-bind_term
decreases-bind_term l = tree_size (tree_of l.t.now)
