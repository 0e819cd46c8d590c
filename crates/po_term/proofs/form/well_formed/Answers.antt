use Rattle.po_term.proofs.FormLemmas.{form_of_moves}
use Rattle.po_term.proofs.form.well_formed.Goals as goal

pub returns : goal.returns
returns c =
    let form = form_of_moves c.args.i.now.xs.items in
    let tested = rw c.as_slice.ensures.value at c.is_well_formed_list.ensures in
    ((λ h. form.0 (tested.0 h)), (λ h. tested.1 (form.1 h)))
