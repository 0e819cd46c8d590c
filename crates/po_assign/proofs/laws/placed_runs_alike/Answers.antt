use Rattle.po_assign.proofs.PlacedRuns.{placed_runs}
use Rattle.po_assign.proofs.laws.placed_runs_alike.Goals as goal

pub returns : goal.returns
returns c = placed_runs
