use Rattle.std.proofs.Common.{◌≡◌, ℕ, ◌<◌, length, map}
use Rattle.po_model.specs.Blocks.{block_of, instrs_at}
use Rattle.po_model.specs.LiveSets.{lives_at}
use Rattle.po_live.specs.Sets.{AreAfter, holds_at}
use Rattle.po_live.proofs.after.blocks_after.Given as goal

abbrev pub invariant-loop-b : goal.invariant-loop-b
invariant-loop-b l =
    (length l.after.items ≡ l.b)
    × ((c : ℕ) → c < l.b
    → AreAfter (instrs_at (map block_of l.blocks) c) (holds_at l.out c) (lives_at l.after.items c))
