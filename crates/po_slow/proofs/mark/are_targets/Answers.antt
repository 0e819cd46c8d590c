use Rattle.std.proofs.Common.{sym, ◌∙◌, ap}
use Rattle.std.specs.List.{list_all}
use Rattle.std.proofs.lemmas.List.Folds.{list_all-map}
use Rattle.po_term.specs.Moves.{move_of}
use Rattle.po_live.specs.Parts.{live_in}
use Rattle.po_slow.specs.Marks.{is_target}
use Rattle.po_slow.proofs.mark.are_targets.Goals as goal

pub returns : goal.returns
returns c =
    let p = is_target (live_in c.args.live) c.args.are in
    c.all_targets.ensures
    ∙ (ap (list_all (λ t. p (move_of t))) c.deref.ensures.value
    ∙ sym (list_all-map p move_of c.args.i.now.xs.items))
