use Rattle.po_run.proofs.Told.{told_two}
use Rattle.po_run.proofs.notes.push_stats.Goals as goal

-- the line is told in eight parts
pub returns-clause-all : goal.returns-clause-all
returns-clause-all g c =
    told_two _ _ _ _ _
    (told_two _ _ _ _ _
    (told_two _ _ _ _ _
    (told_two _ _ _ _ _
    (told_two _ _ _ _ _
    (told_two _ _ _ _ _
    (told_two _ _ _ _ _ c.in_ok-push_number.ensures.all c.in_ok-push_number-2.ensures.all)
    c.in_ok-push_number-3.ensures.all) c.in_ok-push_number-4.ensures.all) c.in_ok-push_number-5.ensures.all)
    c.in_ok-push_number-6.ensures.all) c.in_ok-push_number-7.ensures.all) c.in_ok-write_all.ensures.all
