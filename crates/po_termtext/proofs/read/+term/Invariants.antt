use Rattle.po_termtext.proofs.read.+term.Given as goal

abbrev pub decreases-term : goal.decreases-term
decreases-term l = l.depth
