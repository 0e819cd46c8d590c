use Rattle.std.proofs.Common.{◌≡◌, drop}
use Rattle.po_term.specs.Moves.{moves_of, instr_of}
use Rattle.po_model.specs.Parts.{store_of}
use Rattle.po_subst.proofs.parts.stored.Given as goal

-- none is among the transfers so far
abbrev pub invariant-loop-t : goal.invariant-loop-t
invariant-loop-t l = store_of (moves_of (drop l.t-index l.a.xs.items)) ≡ store_of (instr_of l.a)
