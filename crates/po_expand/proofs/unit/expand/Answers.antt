use Rattle.po_expand.proofs.Units.{unit_fits}
use Rattle.po_expand.proofs.unit.expand.Goals as goal

pub blocks-requires-clause-fits : goal.blocks-requires-clause-fits
blocks-requires-clause-fits c = rw c.as_slice-ops.ensures (unit_fits c.args.u.now c.requires)
