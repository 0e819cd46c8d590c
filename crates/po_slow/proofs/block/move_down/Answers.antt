use Rattle.std.proofs.Common.{arith}
use Rattle.po_slow.proofs.MarksHere.{moved_down, stays_there}
use Rattle.po_slow.proofs.block.move_down.Goals as goal

pub returns-then-to-from : goal.returns-then-to-from
returns-then-to-from c =
    moved_down c.args.xs.now c.args.from c.args.to c.take_out-x.result c.take_out-x.new.xs c.take_out-x.ensures.taken
    c.take_out-x.ensures.left

pub returns-else-to-from : goal.returns-else-to-from
returns-else-to-from c =
    stays_there c.args.xs.now c.args.from c.args.to c.requires.inside (omega (arith, c.requires.order))
