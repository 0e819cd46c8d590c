use Rattle.std.proofs.Common.{◌≡◌, take}
use Rattle.po_term.specs.Moves.{moves_of}
use Rattle.po_term.proofs.copy.copy_instr.Given as goal

abbrev pub invariant-loop-t : goal.invariant-loop-t
invariant-loop-t l = moves_of l.xs.items ≡ moves_of (take l.t-index l.i.xs.items)
