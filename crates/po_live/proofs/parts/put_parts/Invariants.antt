use Rattle.std.proofs.Common.{◌≡◌, ◌≤◌, ◌||◌, drop, length}
use Rattle.po_term.specs.Moves.{instrs_of}
use Rattle.po_model.specs.declared.var.Var.{Var}
use Rattle.po_live.specs.Sets.{is_fp, back, holds}
use Rattle.po_live.specs.Parts.{IsGrown}
use Rattle.po_live.proofs.parts.put_parts.Given as goal

abbrev pub invariant-loop-i : goal.invariant-loop-i
invariant-loop-i l = record {
  within : l.i ≤ length l.xs;
  live : (q : Var) → holds l.live q ≡ (is_fp q || back (instrs_of (drop l.i l.xs)) (holds l.out) q);
  grown : IsGrown l.initial.list.regs.items l.initial.list.parts.items l.list.regs.items l.list.parts.items
      (instrs_of (drop l.i l.xs)) (holds l.out);
  ends : l.list.ends.items ≡ l.initial.list.ends.items;
}

abbrev pub decreases-loop-i : goal.decreases-loop-i
decreases-loop-i l = l.i
