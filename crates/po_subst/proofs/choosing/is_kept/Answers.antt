use Rattle.std.proofs.Common.{sym, ◌∙◌}
use Rattle.po_term.specs.Moves.{instr_of}
use Rattle.po_subst.specs.Seen.{is_among}
use Rattle.po_subst.proofs.Choices.{set_kept, cc_kept, store_kept}
use Rattle.po_subst.proofs.choosing.is_kept.Goals as goal

pub returns-in-Set : goal.returns-in-Set
returns-in-Set c =
    rw (c.in-Set.is) (c.lives_unset.ensures
    ∙ sym (set_kept (is_among c.args.live.now) c.args.cc_live c.in-Set.r (instr_of c.args.b.now)))

pub returns-in-Cc : goal.returns-in-Cc
returns-in-Cc c =
    rw (c.in-Cc.is)
    (c.cc_lives_unset.ensures ∙ sym (cc_kept (is_among c.args.live.now) c.args.cc_live (instr_of c.args.b.now)))

pub returns-in-Store : goal.returns-in-Store
returns-in-Store c =
    rw (c.in-Store.is)
    (c.stores_nothing.ensures ∙ sym (store_kept (is_among c.args.live.now) c.args.cc_live (instr_of c.args.b.now)))
