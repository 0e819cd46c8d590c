use Rattle.std.proofs.Common.{List, ◌≡◌, suc, ◌-◌, ◌∙◌, ap, length, sym, arith}
use Rattle.po_term.specs.declared.transfer.Transfer.{Transfer}
use Rattle.po_term.specs.declared.transfer.Instr.{Instr}
use Rattle.po_term.specs.Moves.{moves_of, instr_of}
use Rattle.po_live.specs.Flow.{exit_by}
use Rattle.po_live.proofs.Preds.{ending_last}
use Rattle.po_model.specs.Parts.{ending_of}
use Rattle.po_live.proofs.graph.block_exit.Goals as goal

pub returns-in-len1-up : goal.returns-in-len1-up
returns-in-len1-up c =
    let long : length c.args.xs.now ≡ suc (length c.args.xs.now - 1) = omega arith in
    let last = ending_last c.args.xs.now (length c.args.xs.now - 1) c.last-item.result long in
    c.instr_exit.ensures ∙ ap (λ (ts : List Transfer). exit_by (ending_of (moves_of ts))) c.deref.ensures.value
    ∙ ap exit_by (ap (λ (i : Instr). ending_of (instr_of i)) c.last-item.is ∙ sym last)
