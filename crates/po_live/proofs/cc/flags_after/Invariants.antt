use Rattle.std.proofs.Common.{◌≡◌, ℕ, ◌<◌, length, map}
use Rattle.po_model.specs.Blocks.{block_of, instrs_at}
use Rattle.po_live.specs.Flags.{cc_after, flag_at, flags_at}
use Rattle.po_live.proofs.cc.flags_after.Given as goal

abbrev pub invariant-loop-b : goal.invariant-loop-b
invariant-loop-b l =
    (length l.after.items ≡ l.b)
    × ((c : ℕ) → c < l.b
    → flags_at l.after.items c ≡ cc_after (instrs_at (map block_of l.blocks) c) (flag_at l.out c))
