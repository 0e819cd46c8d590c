use Rattle.std.proofs.Common.{◌≡◌, drop}
use Rattle.std.specs.Prelude.{filter}
use Rattle.po_term.specs.Moves.{moves_of, instr_of}
use Rattle.po_term.specs.Kinds.{words}
use Rattle.po_model.specs.Parts.{code_leaves}
use Rattle.po_model.specs.Joined.{is_wanted, forward_moves}
use Rattle.po_subst.specs.Found.{behind}
use Rattle.po_subst.specs.Seen.{is_among}
use Rattle.po_subst.proofs.transfers.forward_wanted.Given as goal

-- what is found so far, and then what is still to be forwarded
abbrev pub invariant-loop-t : goal.invariant-loop-t
invariant-loop-t l =
    behind l.xs.items (forward_moves words code_leaves (instr_of l.a)
    (filter (is_wanted (is_among l.live) l.cc_live) (moves_of (drop l.t-index l.b.xs.items)))).got
    ≡ (forward_moves words code_leaves (instr_of l.a)
    (filter (is_wanted (is_among l.live) l.cc_live) (instr_of l.b))).got
