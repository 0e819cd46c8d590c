use Rattle.po_slow.proofs.RunsPasses.{passes_keep_runs}
use Rattle.po_slow.proofs.laws.passes_keep_runs.Goals as goal

pub returns : goal.returns
returns c = passes_keep_runs
