use Rattle.std.proofs.Common.{List}
use Rattle.po_model.specs.Learning.{Try}
use Rattle.po_slow.specs.States.{scan_of, IsFormedState, IsFinished}
use Rattle.po_slow.proofs.Work.{work}
use Rattle.po_fore.specs.Reports.{Gains}
use Rattle.po_fore.proofs.block.compile_block.Given as goal

-- some tries were made, and are in the report
abbrev pub invariant-tries : goal.invariant-tries
invariant-tries g l = record {
  formed : IsFormedState l.s;
  going : IsFinished (scan_of l.s) → ⊥;
  gains : (xs : List Try) × Gains l.m (g.R.Lookup.rules l.rules) (scan_of l.initial.s) (scan_of l.s) l.initial.report
      l.report l.initial.steps l.steps xs;
}

abbrev pub decreases-tries : goal.decreases-tries
decreases-tries g l = work (scan_of l.s)
