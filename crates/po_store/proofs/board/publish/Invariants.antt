use Rattle.std.proofs.Common.{◌≡◌, drop, fold}
use Rattle.po_store.proofs.board.publish.Given as goal

abbrev pub invariant-loop : goal.invariant-loop
invariant-loop g l =
    (goal.iterator-loop g).can_next l.iterator'
    × (goal.iterator-loop g).is_finite l.iterator'
    × (fold g.V.Absorb.applied (g.V.Absorb.state l.writer.desk.shown.value) (drop l.writer.behind l.writer.log.items)
    ≡ fold g.V.Absorb.applied (g.V.Absorb.state l.fn.writer.desk.shown.value)
    (drop l.fn.writer.behind l.fn.writer.log.items))
