use Rattle.po_model.specs.Pairs.{pair_of}
use Rattle.po_opt.proofs.Relooking.{formed_push}
use Rattle.po_opt.proofs.copies.push_copy.Goals as goal

pub returns-clause-formed : goal.returns-clause-formed
returns-clause-formed c =
    formed_push c.args.copies.now.items c.push_pair.new.copies.items c.in_ok-copy.copy (pair_of c.args.pair.now)
    c.in_ok-push_pair.ensures c.in_ok-copy.ensures c.requires
