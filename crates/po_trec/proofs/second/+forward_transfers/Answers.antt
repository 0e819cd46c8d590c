use Rattle.std.proofs.Common.{◌∙◌, Some, None, refl, ap, sym}
use Rattle.po_model.specs.Holed.{hole_moves_of}
use Rattle.po_trec.specs.Read.{list_of, list_made}
use Rattle.po_trec.proofs.Rest.{forward_rest}
use Rattle.po_trec.proofs.second.+forward_transfers.Goals as goal

pub returns-in_ok-followed-in-Some-2 : goal.returns-in_ok-followed-in-Some-2
returns-in_ok-followed-in-Some-2 t c =
    let both = forward_rest c.args.holes.now (hole_moves_of c.args.a.now) c.args.ts.now c.t-item.result
    (list_of c.in-Some.xs) (Some (list_of c.in-Some-2.ys)) c.args.path.now c.forward_transfer.new.path
    c.forward_transfers.new.path c.in-len1-up.len_at_least c.t-item.is
    (ap list_made (sym c.in-Some.is) ∙ c.in_ok-xs-in-len1-up.ensures.0) c.in_ok-xs-in-len1-up.ensures.1
    (ap list_made (sym c.in-Some-2.is) ∙ c.in_ok-ys-in-Some.ensures.0) c.in_ok-ys-in-Some.ensures.1 refl in
    (ap Some c.in_ok-followed-in-Some-2.ensures ∙ both.0, both.1)

pub returns-in-None-2 : goal.returns-in-None-2
returns-in-None-2 t c =
    forward_rest c.args.holes.now (hole_moves_of c.args.a.now) c.args.ts.now c.t-item.result
    (list_of c.in-Some.xs) None c.args.path.now c.forward_transfer.new.path
    c.forward_transfers.new.path c.in-len1-up.len_at_least c.t-item.is
    (ap list_made (sym c.in-Some.is) ∙ c.in_ok-xs-in-len1-up.ensures.0) c.in_ok-xs-in-len1-up.ensures.1
    (ap list_made (sym c.in-None-2.is) ∙ c.in_ok-ys-in-Some.ensures.0) c.in_ok-ys-in-Some.ensures.1 refl
