use Rattle.std.proofs.Common.{◌≡◌, drop}
use Rattle.po_term.specs.Terms.{InReg}
use Rattle.po_term.specs.Moves.{moves_of, instr_of}
use Rattle.po_model.specs.Parts.{code_leaves, right_at}
use Rattle.po_subst.proofs.parts.right_of.Given as goal

-- no transfer so far sets it
abbrev pub invariant-loop-t : goal.invariant-loop-t
invariant-loop-t l =
    right_at code_leaves (InReg l.r) (moves_of (drop l.t-index l.a.xs.items))
    ≡ right_at code_leaves (InReg l.r) (instr_of l.a)
