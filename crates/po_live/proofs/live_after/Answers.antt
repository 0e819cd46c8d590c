use Rattle.po_live.proofs.Instrs.{code_lives, code_lengths}
use Rattle.po_live.proofs.live_after.Goals as goal

pub returns-clause-lengths : goal.returns-clause-lengths
returns-clause-lengths c =
    code_lengths c.args.c.now.blocks.items c.deref.result.now c.deref-2.result.now c.in_ok-out.out.items
    c.deref-3.result.now c.in_ok-after.after.items
    c.deref.ensures.value c.deref-2.ensures.value c.deref-3.ensures.value c.in_ok-after.ensures.after
    c.in_ok-after.ensures.len

pub returns-clause-live : goal.returns-clause-live
returns-clause-live c =
    code_lives c.args.c.now.blocks.items c.deref.result.now c.deref-2.result.now c.in_ok-out.out.items
    c.deref-3.result.now c.in_ok-after.after.items
    c.deref.ensures.value c.deref-2.ensures.value c.deref-3.ensures.value c.in_ok-after.ensures.after
    c.in_ok-out.ensures.live
