use Rattle.std.proofs.Common.{List, ap, ◌∙◌, sym}
use Rattle.po_term.specs.declared.transfer.Instr.{Instr}
use Rattle.po_term.specs.Moves.{instrs_of}
use Rattle.po_live.specs.Sets.{sets_any}
use Rattle.po_live.proofs.Graphs.{instrs_there}
use Rattle.po_live.proofs.solve.sets_at.Goals as goal

pub returns : goal.returns
returns c =
    c.some_sets.ensures
    ∙ ap (λ (is : List Instr). sets_any (instrs_of is) c.args.v) c.deref.ensures.value
    ∙ ap (λ xs. sets_any xs c.args.v)
    (sym (instrs_there c.args.blocks.now c.args.p c.index-blocks-p.result c.requires))
