use Rattle.std.proofs.Common.{◌≡◌, ◌++◌, length}
use Rattle.std.specs.Vec.Iter.{into_iter_items, into_iter_len}
use Rattle.po_term.specs.Moves.{moves_of}
use Rattle.po_term.specs.Actions.{MovesHaveWords}
use Rattle.po_term.specs.Kinds.{words}
use Rattle.po_term.specs.Simplified.{same_register, simple_moves}
use Rattle.po_simplify.proofs.instr.simplified.Given as goal

abbrev pub invariant-loop-t : goal.invariant-loop-t
invariant-loop-t l =
    (moves_of l.xs.items ++ (simple_moves words same_register (moves_of (into_iter_items l.t-iterator))).got
    ≡ (simple_moves words same_register (moves_of (into_iter_items l.initial.t-iterator))).got)
    × (MovesHaveWords (moves_of (into_iter_items l.t-iterator))
    → MovesHaveWords (moves_of (into_iter_items l.initial.t-iterator)))
    × (into_iter_len l.t-iterator ≡ length (into_iter_items l.t-iterator))
