use Rattle.std.proofs.lemmas.Result.{on_ok_weaker}
use Rattle.po_expand.proofs.Steps.{label_at, symbol_at}
use Rattle.po_expand.proofs.state.Expansion.step.Goals as goal

pub returns-in-Con : goal.returns-in-Con
returns-in-Con c =
    rw c.in-Con.is
    (on_ok_weaker c.constant.result (λ h. h c.args.labels.now.table c.args.syms.now.table) c.constant.ensures)

pub returns-in-Adl : goal.returns-in-Adl
returns-in-Adl c =
    rw c.in-Adl.is (on_ok_weaker c.frame_address.result (λ h. h c.args.labels.now.table c.args.syms.now.table)
    c.frame_address.ensures)

pub returns-in-Lod : goal.returns-in-Lod
returns-in-Lod c =
    rw c.in-Lod.is (on_ok_weaker c.load.result (λ h. h c.args.labels.now.table c.args.syms.now.table) c.load.ensures)

pub returns-in-Sto : goal.returns-in-Sto
returns-in-Sto c =
    rw c.in-Sto.is (on_ok_weaker c.store.result (λ h. h c.args.labels.now.table c.args.syms.now.table) c.store.ensures)

pub returns-in-Bin : goal.returns-in-Bin
returns-in-Bin c =
    rw c.in-Bin.is
    (on_ok_weaker c.apply_two.result (λ h. h c.args.labels.now.table c.args.syms.now.table) c.apply_two.ensures)

pub returns-in-Un : goal.returns-in-Un
returns-in-Un c =
    rw c.in-Un.is
    (on_ok_weaker c.apply_one.result (λ h. h c.args.labels.now.table c.args.syms.now.table) c.apply_one.ensures)

pub returns-in-Dup : goal.returns-in-Dup
returns-in-Dup c =
    rw c.in-Dup.is
    (on_ok_weaker c.duplicate.result (λ h. h c.args.labels.now.table c.args.syms.now.table) c.duplicate.ensures)

pub returns-in-Pop : goal.returns-in-Pop
returns-in-Pop c =
    rw c.in-Pop.is
    (on_ok_weaker c.discard.result (λ h. h c.args.labels.now.table c.args.syms.now.table) c.discard.ensures)

pub returns-in-Arg : goal.returns-in-Arg
returns-in-Arg c =
    rw c.in-Arg.is (on_ok_weaker c.set_argument.result (λ h. h c.args.labels.now.table c.args.syms.now.table)
    c.set_argument.ensures)

pub returns-in-Ret : goal.returns-in-Ret
returns-in-Ret c =
    rw c.in-Ret.is (on_ok_weaker c.leave.result (λ h. h c.args.labels.now.table c.args.syms.now.table) c.leave.ensures)

pub returns-in-Adg : goal.returns-in-Adg
returns-in-Adg c =
    rw c.in-Adg.is (on_ok_weaker c.symbol_address.result
    (λ h. h c.args.labels.now.table c.args.syms.now.table _
    (symbol_at c.args.labels.now.table c.args.syms.now.table c.in-Adg.s c.number.result c.number.ensures))
    c.symbol_address.ensures)

pub returns-in-Lab : goal.returns-in-Lab
returns-in-Lab c =
    rw c.in-Lab.is (on_ok_weaker c.name_place.result
    (λ h. h c.args.labels.now.table c.args.syms.now.table _
    (label_at c.args.labels.now.table c.args.syms.now.table c.in-Lab.l c.number-in-Lab.result
    c.number-in-Lab.ensures)) c.name_place.ensures)

pub returns-in-Jmp : goal.returns-in-Jmp
returns-in-Jmp c =
    rw c.in-Jmp.is (on_ok_weaker c.jump.result
    (λ h. h c.args.labels.now.table c.args.syms.now.table _
    (label_at c.args.labels.now.table c.args.syms.now.table c.in-Jmp.l c.number-in-Jmp.result
    c.number-in-Jmp.ensures)) c.jump.ensures)

pub returns-in-Br : goal.returns-in-Br
returns-in-Br c =
    rw c.in-Br.is (on_ok_weaker c.branch_on.result
    (λ h. h c.args.labels.now.table c.args.syms.now.table _
    (label_at c.args.labels.now.table c.args.syms.now.table c.in-Br.l c.number-in-Br.result
    c.number-in-Br.ensures)) c.branch_on.ensures)

pub returns-in-Call : goal.returns-in-Call
returns-in-Call c =
    rw c.in-Call.is (on_ok_weaker c.call.result
    (λ h. h c.args.labels.now.table c.args.syms.now.table _
    (symbol_at c.args.labels.now.table c.args.syms.now.table c.in-Call.f c.number-in-Call.result
    c.number-in-Call.ensures)) c.call.ensures)
