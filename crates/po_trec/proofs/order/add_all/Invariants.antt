use Rattle.std.proofs.Common.{◌≡◌, List, ◌++◌}
use Rattle.std.specs.Vec.Iter.{into_iter_items}
use Rattle.po_model.specs.Holed.{HoleMove, hole_moves_of}
use Rattle.po_trec.specs.Order.{with_rest}
use Rattle.po_trec.proofs.order.add_all.Given as goal

-- what is there, with what is still to come, is what there was with all
abbrev pub invariant-loop-t : goal.invariant-loop-t
invariant-loop-t l =
    (ms : List HoleMove) → with_rest l.by_kind (hole_moves_of (into_iter_items l.t-iterator) ++ ms)
    ≡ with_rest l.initial.by_kind (hole_moves_of (into_iter_items l.initial.t-iterator) ++ ms)
