use Rattle.std.proofs.Common.{◌∙◌}
use Rattle.po_trec.specs.Read.{list_of}
use Rattle.po_trec.proofs.Rest.{simple_rest}
use Rattle.po_trec.proofs.transfers.+simplify_transfers.Goals as goal

pub returns-in_ok-rest-in-len1-up : goal.returns-in_ok-rest-in-len1-up
returns-in_ok-rest-in-len1-up t c =
    simple_rest c.args.holes.now c.args.ts.now c.t-item.result (list_of c.in_ok-first-in-len1-up-2.first)
    (list_of c.in_ok-rest-in-len1-up.rest) c.followed.result c.args.path.now c.simplify_transfer.new.path
    c.simplify_transfers.new.path c.in-len1-up.len_at_least c.t-item.is
    (c.in_ok-first-in-len1-up-2.ensures ∙ c.in_ok-first-in-len1-up.ensures.0) c.in_ok-first-in-len1-up.ensures.1
    c.in_ok-rest-in-len1-up.ensures.0 c.in_ok-rest-in-len1-up.ensures.1 c.followed.ensures
