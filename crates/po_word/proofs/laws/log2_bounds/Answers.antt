use Rattle.po_word.proofs.Log2.{log2-none, log2-bounds, log2-above}
use Rattle.po_word.proofs.laws.log2_bounds.Goals as goal

pub returns-clause-none : goal.returns-clause-none
returns-clause-none c = log2-none

pub returns-clause-at_most : goal.returns-clause-at_most
returns-clause-at_most c pos = (log2-bounds c.args.c pos c.ranges.c.fits).0

pub returns-clause-above : goal.returns-clause-above
returns-clause-above c = log2-above c.args.c c.ranges.c.fits
