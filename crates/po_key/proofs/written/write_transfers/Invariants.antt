use Rattle.std.proofs.Common.{◌≡◌, ◌++◌, drop}
use Rattle.po_model.specs.Holed.{hole_moves_of}
use Rattle.po_key.specs.ShapeWords.{moves_words}
use Rattle.po_key.proofs.written.write_transfers.Given as goal

-- what is written so far, with what is still to come, is the whole
abbrev pub invariant-loop-t : goal.invariant-loop-t
invariant-loop-t l = l.out.items ++ moves_words (hole_moves_of (drop l.t-index l.xs))
    ≡ l.initial.out.items ++ moves_words (hole_moves_of l.xs)
