use Rattle.po_compile.proofs.Runs.{slowed_run}
use Rattle.po_compile.proofs.laws.placed_slowed_runs_alike.Goals as goal

pub returns : goal.returns
returns c = slowed_run
