use Rattle.po_model.specs.Blocks.{code_of}
use Rattle.po_slow.specs.States.{scan_of, IsFormedState}
use Rattle.po_slow.specs.Marks.{AreMarked}
use Rattle.po_slow.specs.Steps.{HasGone}
use Rattle.po_slow.proofs.Work.{work}
use Rattle.po_slow.proofs.unit.all_passes.Given as goal

abbrev pub invariant-scan : goal.invariant-scan
invariant-scan g l = IsFormedState l.s × HasGone l.m (code_of l.fn.code) (scan_of l.s) l.initial.steps l.steps
    × AreMarked l.m l.s

abbrev pub decreases-scan : goal.decreases-scan
decreases-scan g l = work (scan_of l.s)
