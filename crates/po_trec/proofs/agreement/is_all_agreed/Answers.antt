use Rattle.std.proofs.Common.{◌∙◌, sym}
use Rattle.std.proofs.lemmas.List.Folds.{list_all-map}
use Rattle.po_model.specs.Fit.{agrees}
use Rattle.po_model.specs.Generalised.{hole_leaves}
use Rattle.po_trec.specs.Spots.{found_of, founds_of}
use Rattle.po_trec.proofs.agreement.is_all_agreed.Goals as goal

pub returns : goal.returns
returns c = c.each_agrees.ensures
    ∙ sym (list_all-map (agrees hole_leaves (founds_of c.args.all.now)) found_of c.args.all.now)
