use Rattle.po_model.specs.Holed.{hole_moves_of}
use Rattle.po_trec.proofs.Fitting.{later_entry}
use Rattle.po_trec.proofs.recognising.+first.Goals as goal

pub returns-else-branch : goal.returns-else-branch
returns-else-branch t c =
    later_entry c.args.holes.now c.args.cc_live c.args.entries.now c.e-item.result c.args.number
    (hole_moves_of c.args.xs.now)
    c.in_ok-is_fit-in-len1-up.field-0 c.first.result c.args.path.now c.is_fit.new.path c.first.new.path
    c.in-len1-up.len_at_least c.e-item.is c.in_ok-is_fit-in-len1-up.ensures.0 c.in_ok-is_fit-in-len1-up.ensures.1
    c.if-branch.false c.first.ensures
