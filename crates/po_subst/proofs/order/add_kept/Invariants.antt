use Rattle.std.proofs.Common.{◌≡◌, List, ◌++◌, drop}
use Rattle.po_term.specs.Moves.{moves_of, instr_of, PlainMove}
use Rattle.po_subst.specs.Order.{with_rest, kept_beside}
use Rattle.po_subst.specs.Seen.{is_among}
use Rattle.po_subst.proofs.order.add_kept.Given as goal

-- what is there, with what is still to come, is what there was with all
abbrev pub invariant-loop-t : goal.invariant-loop-t
invariant-loop-t l =
    (ms : List PlainMove)
    → with_rest l.by_kind
    (kept_beside (is_among l.live) l.cc_live (instr_of l.b) (moves_of (drop l.t-index l.a.xs.items)) ++ ms)
    ≡ with_rest l.initial.by_kind (kept_beside (is_among l.live) l.cc_live (instr_of l.b) (instr_of l.a) ++ ms)
