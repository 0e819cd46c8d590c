use Rattle.std.proofs.Common.{sym, ◌∙◌, ap, subst}
use Rattle.po_model.specs.Pairs.{pair_of}
use Rattle.po_model.specs.Shape.{shape_with}
use Rattle.po_skel.specs.Few.{HasFew}
use Rattle.po_skel.proofs.Few.{pair_few, pair_few_constants}
use Rattle.po_skel.proofs.matched.is_of_shape.Goals as goal

pub has_shape-requires-clause-values : goal.has_shape-requires-clause-values
has_shape-requires-clause-values c =
    subst HasFew (sym c.requires.values) (pair_few (pair_of c.args.p.now) c.requires.first c.requires.second)

pub has_shape-requires-clause-consts : goal.has_shape-requires-clause-consts
has_shape-requires-clause-consts c = pair_few_constants (pair_of c.args.p.now) c.requires.first c.requires.second

pub returns : goal.returns
returns c =
    let own = ap (λ v. shape_with v (pair_of c.args.p.now)) c.requires.values in
    (λ t. sym (c.has_shape.ensures.0 t ∙ own), λ e. c.has_shape.ensures.1 (sym e ∙ sym own))
