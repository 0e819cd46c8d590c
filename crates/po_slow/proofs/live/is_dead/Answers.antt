use Rattle.std.proofs.Common.{sym, ◌∙◌, ap}
use Rattle.std.specs.List.{list_all}
use Rattle.std.proofs.lemmas.List.Folds.{list_all-map}
use Rattle.po_term.specs.Moves.{move_of}
use Rattle.po_live.specs.Parts.{live_in}
use Rattle.po_model.specs.Scanned.{is_dead_move}
use Rattle.po_slow.proofs.live.is_dead.Goals as goal

pub returns : goal.returns
returns c =
    let dead = is_dead_move (live_in c.args.live) in
    c.all_dead.ensures
    ∙ (ap (list_all (λ t. dead (move_of t))) c.deref.ensures.value
    ∙ sym (list_all-map dead move_of c.args.i.now.xs.items))
