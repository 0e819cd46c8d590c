use Rattle.std.proofs.Common.{◌∙◌, ap}
use Rattle.std.proofs.lemmas.List.{append-nil}
use Rattle.po_text.specs.Causes.{after_known}
use Rattle.po_run.specs.Notes.{note_line}
use Rattle.po_run.proofs.serial.po_serial.Goals as goal

-- no counts are told
pub returns-clause-notes : goal.returns-clause-notes
returns-clause-notes g c = λ same few. c.tell.ensures same few
    ∙ ap (after_known (g.N.Sink.kept c.args.notes.now)) (append-nil (note_line c.answer-status.result))
