use Rattle.std.proofs.Common.{◌≡◌, ℕ, Bool, true, ◌++◌, drop}
use Rattle.std.specs.Io.{StartsWith}
use Rattle.po_term.specs.Moves.{instrs_of}
use Rattle.po_live.specs.Flags.{flag_at}
use Rattle.po_model.specs.UnitCodes.{unit_of}
use Rattle.po_model.specs.Assembly.{lines_from}
use Rattle.po_emit.specs.Fits.{FitFrom}
use Rattle.po_emit.specs.Regs.{machine_at}
use Rattle.po_emit.proofs.lines.push_lines.Given as goal

-- the lines so far, and then those of the instructions behind
abbrev pub invariant-loop-i : goal.invariant-loop-i
invariant-loop-i l = record {
  text : (live : ℕ → ℕ → Bool) (b : ℕ) → ((i : ℕ) → live b i ≡ flag_at l.lives i)
      → l.out.items ++ lines_from l.m (machine_at l.regs) (unit_of l.u) live b l.i (instrs_of (drop l.i l.xs))
      ≡ l.fn.out.items ++ lines_from l.m (machine_at l.regs) (unit_of l.u) live b 0 (instrs_of l.xs);
  fits : l.all ≡ true → FitFrom l.m l.lives l.i (instrs_of (drop l.i l.xs)) → FitFrom l.m l.lives 0 (instrs_of l.xs);
  kept : StartsWith l.out.items l.fn.out.items;
}
