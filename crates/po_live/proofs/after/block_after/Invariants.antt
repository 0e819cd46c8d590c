use Rattle.std.proofs.Common.{◌≡◌, ◌≤◌, length, drop, reverse}
use Rattle.std.specs.Prelude.{◌||◌}
use Rattle.po_term.specs.Moves.{instrs_of}
use Rattle.po_model.specs.declared.var.Var.{Var}
use Rattle.po_live.specs.Sets.{holds}
use Rattle.po_live.specs.Sets.{is_fp, back, AreAfter}
use Rattle.po_live.proofs.after.block_after.Given as goal

abbrev pub invariant-loop-i : goal.invariant-loop-i
invariant-loop-i l = record {
  within : l.i ≤ length l.xs;
  live : (q : Var) → holds l.live q ≡ (is_fp q || back (instrs_of (drop l.i l.xs)) (holds l.out) q);
  after : AreAfter (instrs_of (drop l.i l.xs)) (holds l.out) (reverse l.after.items);
}

abbrev pub decreases-loop-i : goal.decreases-loop-i
decreases-loop-i l = l.i
