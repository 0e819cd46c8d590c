-- A pair of instructions as plain data, and which pairs are well formed.
use Rattle.std.specs.Prelude.{Bool, ◌||◌, IsTrue, List, All, is_some}
use Rattle.std.specs.List.{list_any}
use Rattle.po_term.specs.declared.term.Reg.{Reg as Register}
use Rattle.po_term.specs.Terms.{InReg}
use Rattle.po_term.specs.Simplified.{reg_eq}
use Rattle.po_term.specs.Moves.{instr_of, PlainInstr}
use Rattle.po_term.specs.Form.{WellFormed}
use Rattle.po_model.specs.declared.pair.Pair.{Pair}
use Rattle.po_model.specs.Parts.{code_leaves, right_at}

-- two instructions, and what is live after the second: of the registers that they set, and whether cc is
pub record PlainPair : Type 0 where
  pub a : PlainInstr
  pub b : PlainInstr
  pub regs : List Register
  pub cc : Bool

abbrev pub pair_of : Pair → PlainPair
pair_of p = record { a = instr_of p.a; b = instr_of p.b; regs = p.live.regs.keys; cc = p.live.cc }

-- whether a register is among those that are live after the pair
abbrev pub is_live_after : PlainPair → Register → Bool
is_live_after p r = list_any (reg_eq r) p.regs

-- whether an instruction has a transfer `r := t`
abbrev pub is_set_in : PlainInstr → Register → Bool
is_set_in ms r = is_some (right_at code_leaves (InReg r) ms)

pub record WellFormedPair (p : PlainPair) : Type 0 where
  pub first : WellFormed p.a
  pub second : WellFormed p.b
  -- what is named as live is set by one of the two
  pub set : All (λ r. IsTrue (is_set_in p.a r || is_set_in p.b r)) p.regs
