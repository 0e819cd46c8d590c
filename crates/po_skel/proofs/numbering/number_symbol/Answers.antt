use Rattle.std.proofs.Common.{arith}
use Rattle.po_model.specs.Holed.{values_of}
use Rattle.po_skel.proofs.Numbered.{symbol_below}
use Rattle.po_skel.proofs.numbering.number_symbol.Goals as goal

pub overflow_cast-result : goal.overflow_cast-result
overflow_cast-result c =
    let below = symbol_below (values_of c.args.v.now) c.args.s c.in_ok-k.k c.requires c.in_ok-k.ensures.place in
    omega arith
