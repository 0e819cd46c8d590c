use Rattle.std.proofs.Common.{◌≡◌, ℕ, ◌+◌, ◌≤◌, ◌||◌, ◌&&◌, not, true, List, take, length, map}
use Rattle.po_model.specs.declared.var.Var.{Var}
use Rattle.po_model.specs.Blocks.{block_of, instrs_at}
use Rattle.po_live.specs.Sets.{holds_at}
use Rattle.po_live.specs.Sets.{var_eq, sets_any}
use Rattle.po_live.specs.Due.{is_due, is_in, is_among, missing_below}
use Rattle.po_live.proofs.solve.spread.Given as goal

abbrev pub invariant-loop-p : goal.invariant-loop-p
invariant-loop-p l = record {
  long : length l.out ≡ length l.initial.out;
  out : (b : ℕ) (q : Var)
      → holds_at l.out b q ≡ ((is_in (take l.p-index l.ps) b && var_eq l.v q) || holds_at l.initial.out b q);
  work : (b : ℕ) (q : Var)
      → is_due l.work.items b q
      ≡ (((is_in (take l.p-index l.ps) b && var_eq l.v q)
      && (not (holds_at l.initial.out b l.v) && not (sets_any (instrs_at (map block_of l.blocks) b) l.v)))
      || is_due l.initial.work.items b q);
  fuel : (us : List Var) → is_among us l.v ≡ true
      → missing_below us (holds_at l.out) (length l.initial.out) + length l.work.items
      ≤ missing_below us (holds_at l.initial.out) (length l.initial.out) + length l.initial.work.items;
}
