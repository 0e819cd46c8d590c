use Rattle.std.proofs.Common.{length}
use Rattle.po_term.proofs.form.+pairs_agree.Given as goal

abbrev pub decreases-pairs_agree : goal.decreases-pairs_agree
decreases-pairs_agree l = length l.xs.now
