use Rattle.std.proofs.Common.{List, length, ap, sym, ◌∙◌}
use Rattle.std.proofs.lemmas.List.{length-map}
use Rattle.po_model.specs.declared.code.Block.{Block}
use Rattle.po_model.specs.Blocks.{block_of, code_of}
use Rattle.po_live.proofs.Flags.{flag_lengths, flag_lives, flags_lent}
use Rattle.po_live.proofs.cc_live_after.Goals as goal

pub returns-clause-lengths : goal.returns-clause-lengths
returns-clause-lengths c =
    flag_lengths (code_of c.args.c.now) c.in_ok-out.out.items c.in_ok-after.after.items
    (flags_lent c.args.c.now.blocks.items c.deref-2.result.now c.in_ok-out.out.items c.deref-3.result.now
    c.in_ok-after.after.items c.deref-2.ensures.value c.deref-3.ensures.value c.in_ok-after.ensures.after)
    (c.in_ok-after.ensures.len ∙ ap (λ (bs : List Block). length bs) c.deref-2.ensures.value
    ∙ sym (length-map c.args.c.now.blocks.items block_of))

pub returns-clause-live : goal.returns-clause-live
returns-clause-live c =
    flag_lives (code_of c.args.c.now) c.in_ok-out.out.items c.in_ok-after.after.items
    (flags_lent c.args.c.now.blocks.items c.deref-2.result.now c.in_ok-out.out.items c.deref-3.result.now
    c.in_ok-after.after.items c.deref-2.ensures.value c.deref-3.ensures.value c.in_ok-after.ensures.after)
    (rw (← c.deref.ensures.value) c.in_ok-out.ensures.live)
