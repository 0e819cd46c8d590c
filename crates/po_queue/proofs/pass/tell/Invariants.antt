use Rattle.std.proofs.Common.{◌≡◌, ◌<◌, ◌≤◌}
use Rattle.crossbeam_utils.specs.Seq.{cell_view}
use Rattle.po_queue.proofs.pass.tell.Given as goal

abbrev pub invariant-loop : goal.invariant-loop
invariant-loop g l =
    (goal.iterator-loop g).can_next l.iterator' × (goal.iterator-loop g).is_finite l.iterator'
    × (l.tally.table_id ≡ l.fn.tally.table_id) × ((cell_view l.tally).told ≡ (cell_view l.fn.tally).told)
    × ((cell_view l.tally).parts ≡ (cell_view l.fn.tally).parts)
    × ((cell_view l.fn.tally).seen ≤ (cell_view l.tally).seen)
