use Rattle.std.proofs.Common.{ap, ◌∙◌}
use Rattle.po_mdread.specs.Reading.{names_sofar}
use Rattle.po_mdread.proofs.read.some_line.Goals as goal

pub returns-in-Ended-clause-kept : goal.returns-in-Ended-clause-kept
returns-in-Ended-clause-kept c = c.requires.state ∙ ap names_sofar c.in-Ended.is
