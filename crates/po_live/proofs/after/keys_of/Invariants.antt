use Rattle.std.proofs.Common.{◌≡◌, take}
use Rattle.std.specs.List.{list_any}
use Rattle.po_term.specs.Simplified.{reg_eq}
use Rattle.po_term.specs.declared.term.Reg.{Reg as Register}
use Rattle.po_live.specs.Sets.{has_reg}
use Rattle.po_live.proofs.after.keys_of.Given as goal

abbrev pub invariant-loop-r : goal.invariant-loop-r
invariant-loop-r l = (q : Register) → list_any (reg_eq q) l.set.keys ≡ has_reg (take l.r-index l.regs) q
