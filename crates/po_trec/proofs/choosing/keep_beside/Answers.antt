use Rattle.std.proofs.Common.{ap, ◌∙◌, rules, Bool}
use Rattle.std.proofs.lemmas.Fn.{filter_same}
use Rattle.po_model.specs.Joined.{is_kept}
use Rattle.po_model.specs.Holed.{HoleMove, hole_move_of, hole_moves_of, shape_of}
use Rattle.po_model.specs.Generalised.{hole_leaves, is_live_in}
use Rattle.po_trec.proofs.Choices.{filter_moves}
use Rattle.po_trec.proofs.choosing.keep_beside.Goals as goal

pub returns : goal.returns
returns c =
    let test : HoleMove → Bool =
    is_kept hole_leaves (is_live_in (shape_of c.args.s.now)) c.args.s.now.cc (hole_moves_of c.args.b.now) in
    ap hole_moves_of (filter_same _ (λ t. test (hole_move_of t)) _ (λ x b f' k. search rules) _ _
    c.retain.ensures.filtered)
    ∙ filter_moves test c.args.a.now.items
