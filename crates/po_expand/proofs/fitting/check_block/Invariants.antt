use Rattle.std.proofs.Common.{◌≡◌, ℕ, ◌<◌, true}
use Rattle.po_term.specs.Moves.{instrs_of}
use Rattle.po_expand.specs.Checks.{fits_in}
use Rattle.po_expand.proofs.fitting.check_block.Given as goal

abbrev pub invariant-loop-i : goal.invariant-loop-i
invariant-loop-i l = (j : ℕ) → j < l.i → fits_in l.m l.lives (instrs_of l.instrs) j ≡ true
