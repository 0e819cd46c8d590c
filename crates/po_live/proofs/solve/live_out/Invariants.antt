use Rattle.std.proofs.Common.{◌≡◌, ◌+◌, length, map}
use Rattle.po_model.specs.Blocks.{block_of}
use Rattle.po_live.specs.Sets.{holds_at}
use Rattle.po_live.specs.Due.{is_due, vars_of, missing_below}
use Rattle.po_live.proofs.Solved.{Going}
use Rattle.po_live.proofs.solve.live_out.Given as goal

abbrev pub invariant-passing : goal.invariant-passing
invariant-passing l = record {
  long : length l.out.items ≡ length l.blocks;
  going : Going (map block_of l.blocks) (vars_of l.initial.work.items) (holds_at l.out.items) (is_due l.work.items);
}

-- each turn takes what is due once, and adds no more than it finds
abbrev pub decreases-passing : goal.decreases-passing
decreases-passing l =
    missing_below (vars_of l.initial.work.items) (holds_at l.out.items) (length l.blocks) + length l.work.items
