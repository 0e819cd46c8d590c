use Rattle.po_run.specs.Stats.{stats_text}
use Rattle.po_run.proofs.run.po_run.Goals as goal

pub returns-clause-notes : goal.returns-clause-notes
returns-clause-notes g c = λ same few.
    (stats_text c.answer-served.result.stats, c.answer-served.ensures.stats, c.tell.ensures same few)
