use Rattle.std.proofs.Common.{◌∙◌, sym, map}
use Rattle.po_model.specs.Blocks.{block_of}
use Rattle.po_live.proofs.Preds.{if_ok}
use Rattle.po_live.proofs.Flags.{any_block, dead_at_ends, flags_read}
use Rattle.po_live.proofs.cc.cc_ends.Goals as goal

pub returns-in_ok-sets-clause-live : goal.returns-in_ok-sets-clause-live
returns-in_ok-sets-clause-live c = if_ok c.flags_of.result
    (λ out e. flags_read (map block_of c.args.blocks.now) c.in_ok-sets.sets.items out.items
    (rw (← c.deref.ensures.value) e) c.in_ok-sets.ensures.live)
    c.flags_of.ensures

pub returns-else-some_reads_first-clause-live : goal.returns-else-some_reads_first-clause-live
returns-else-some_reads_first-clause-live c = if_ok c.none.result
    (λ out e b xs. rw (e b) (dead_at_ends (map block_of c.args.blocks.now)
    (any_block c.args.blocks.now ∙ sym c.some_reads_first.ensures ∙ c.if-some_reads_first.false) b xs))
    c.none.ensures.none
