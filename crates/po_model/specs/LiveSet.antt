-- Which registers a set of live registers has.
use Rattle.std.specs.Prelude.{Bool}
use Rattle.std.specs.List.{list_any}
use Rattle.std.specs.BTreeSet.{keys}
use Rattle.po_term.specs.declared.term.Reg.{Reg as Register}
use Rattle.po_term.specs.Simplified.{reg_eq}
use Rattle.po_model.specs.declared.pair.Live.{Live}

-- the register is one of those that are live
abbrev pub is_live : Live → Register → Bool
is_live live r = list_any (reg_eq r) (keys live.regs)
