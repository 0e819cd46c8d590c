use Rattle.po_term.specs.Terms.{tree_of}
use Rattle.po_term.specs.Moves.{move_of}
use Rattle.po_term.proofs.FormLemmas.{set_before}
use Rattle.po_term.proofs.form.goes_before.Goals as goal

pub returns-in-Set : goal.returns-in-Set
returns-in-Set c = rw c.in-Set.is (set_before c.in-Set.r (tree_of c.in-Set.field-1) (move_of c.args.y.now)
    c.sets.result c.sets.ensures)
