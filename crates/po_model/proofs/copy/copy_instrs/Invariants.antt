use Rattle.std.proofs.Common.{◌≡◌, take}
use Rattle.po_term.specs.Moves.{instrs_of}
use Rattle.po_model.proofs.copy.copy_instrs.Given as goal

abbrev pub invariant-loop-i : goal.invariant-loop-i
invariant-loop-i l = instrs_of l.instrs.items ≡ instrs_of (take l.i-index l.is)
