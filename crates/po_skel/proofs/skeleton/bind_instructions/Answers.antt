use Rattle.std.proofs.Common.{sym, subst}
use Rattle.po_term.specs.Moves.{moves_of}
use Rattle.po_model.specs.Pairs.{pair_of}
use Rattle.po_model.specs.Shape.{nothing_met, meet_moves}
use Rattle.po_skel.specs.Few.{HasFew}
use Rattle.po_skel.proofs.Numbered.{few_instruction}
use Rattle.po_skel.proofs.skeleton.bind_instructions.Goals as goal

pub bind_transfers-requires : goal.bind_transfers-requires
bind_transfers-requires c =
    let few = few_instruction (pair_of c.args.p.now) c.requires.few in
    let own = subst (λ ts. HasFew (meet_moves nothing_met (moves_of ts))) (sym c.deref-2.ensures.value) few in
    subst (λ v. HasFew (meet_moves v (moves_of c.deref-2.result.now))) (sym c.requires.start) own
