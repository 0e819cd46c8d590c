use Rattle.std.proofs.Common.{◌≡◌, ◌++◌, drop}
use Rattle.po_term.specs.Moves.{moves_of}
use Rattle.po_model.specs.Holed.{values_of}
use Rattle.po_model.specs.Shape.{meet_moves}
use Rattle.po_skel.specs.Numbered.{numbered_moves}
use Rattle.po_key.specs.ShapeWords.{moves_words}
use Rattle.po_key.proofs.pair.walk_transfers.Given as goal

-- what is met and written so far, with what is still to come, is the whole
abbrev pub invariant-loop-t : goal.invariant-loop-t
invariant-loop-t l =
    (meet_moves (values_of l.v) (moves_of (drop l.t-index l.xs)) ≡ meet_moves (values_of l.initial.v) (moves_of l.xs))
    × (l.out.items ++ moves_words (numbered_moves (values_of l.v) (moves_of (drop l.t-index l.xs)))
    ≡ l.initial.out.items ++ moves_words (numbered_moves (values_of l.initial.v) (moves_of l.xs)))
