use Rattle.std.proofs.Common.{drop}
use Rattle.po_term.specs.Moves.{move_of, moves_of}
use Rattle.po_model.specs.Patterns.{pat_move_of, pat_moves_of}
use Rattle.po_model.specs.Fit.{move_found, moves_found}
use Rattle.po_recog.proofs.Lists.{rest_whole, first_of_list}
use Rattle.po_recog.proofs.Walks.{walked}
use Rattle.po_model.specs.Parts.{code_leaves}
use Rattle.po_recog.proofs.walk.+takes_moves.Goals as goal

pub returns-then-takes_move : goal.returns-then-takes_move
returns-then-takes_move t c =
    rw (
      first_of_list c.args.ps.now c.p-item.result c.in-len1-up.len_at_least c.p-item.is,
      first_of_list c.args.xs.now c.x-item.result c.in-len1-up-xs.len_at_least c.x-item.is,
    )
    (walked c.takes_move.result c.takes_moves.result
    (move_found code_leaves (pat_move_of c.p-item.result) (move_of c.x-item.result))
    (moves_found code_leaves (pat_moves_of (drop 1 c.args.ps.now)) (moves_of (drop 1 c.args.xs.now)))
    c.args.slots.now c.takes_move.new.slots c.takes_moves.new.slots
    c.takes_move.ensures (rw (rest_whole c.args.ps.now 1, rest_whole c.args.xs.now 1) at c.takes_moves.ensures)
    c.if-takes_move.true)
