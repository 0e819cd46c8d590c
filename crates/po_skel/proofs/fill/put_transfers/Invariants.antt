use Rattle.std.proofs.Common.{◌≡◌, ◌++◌, drop, map}
use Rattle.po_term.specs.Moves.{moves_of}
use Rattle.po_model.specs.Holed.{values_of, hole_moves_of}
use Rattle.po_model.specs.Put.{put_move, HasMoves}
use Rattle.po_skel.proofs.fill.put_transfers.Given as goal

-- what is put so far, with what is still to come, is the whole, and what is to come has its values
abbrev pub invariant-loop-t : goal.invariant-loop-t
invariant-loop-t l =
    (moves_of l.out.items ++ map (put_move (values_of l.v)) (hole_moves_of (drop l.t-index l.xs))
    ≡ map (put_move (values_of l.v)) (hole_moves_of l.xs))
    × HasMoves (values_of l.v) (hole_moves_of (drop l.t-index l.xs))
