use Rattle.po_term.specs.Moves.{instr_of}
use Rattle.po_simplify.proofs.Acts.{moves_kept}
use Rattle.po_simplify.proofs.instr.simplify_instr.Goals as goal

pub returns-clause-kept : goal.returns-clause-kept
returns-clause-kept c = λ s fits. moves_kept (instr_of c.args.i) (instr_of c.in_ok-r.r) c.in_ok-r.ensures.made s fits
    c.in_ok-r.ensures.fits
