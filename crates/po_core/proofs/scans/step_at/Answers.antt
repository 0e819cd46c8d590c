use Rattle.po_model.specs.Combined.{combination_of}
use Rattle.po_core.proofs.Lifting.{stepped_at, unchanged_at}
use Rattle.po_core.proofs.scans.step_at.Goals as goal

pub returns-clause-stepped : goal.returns-clause-stepped
returns-clause-stepped c = stepped_at c.scan_step.result c.args.scans.now c.args.at c.index-scans-at.result
    c.scan_step.new.s
    (combination_of c.args.o) c.requires.inside c.scan_step.ensures.goes_on

pub returns-clause-unchanged : goal.returns-clause-unchanged
returns-clause-unchanged c = unchanged_at c.scan_step.result c.args.scans.now c.args.at c.index-scans-at.result
    c.scan_step.new.s c.scan_step.ensures.unchanged
