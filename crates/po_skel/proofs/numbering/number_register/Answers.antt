use Rattle.std.proofs.Common.{subst, arith}
use Rattle.po_model.specs.Holed.{values_of}
use Rattle.po_model.specs.Shape.{meet_register}
use Rattle.po_skel.specs.Few.{HasFew}
use Rattle.po_skel.proofs.Numbered.{register_below}
use Rattle.po_skel.proofs.numbering.number_register.Goals as goal

pub overflow_cast-result : goal.overflow_cast-result
overflow_cast-result c =
    let few = subst (λ r. HasFew (meet_register (values_of c.args.v.now) r)) c.in-Virt.is c.requires in
    let below = register_below (values_of c.args.v.now) c.in-Virt.n c.in_ok-k.k few c.in_ok-k.ensures.place in
    omega arith
