use Rattle.std.proofs.Common.{◌≡◌, take}
use Rattle.po_compile.specs.Modes.{mode_alone}
use Rattle.po_compile.specs.Output.{naive_codes}
use Rattle.po_compile.specs.Turns.{AreDone}
use Rattle.po_compile.proofs.alone.take_all.Given as goal

-- the units so far are done
abbrev pub invariant-loop-unit : goal.invariant-loop-unit
invariant-loop-unit g l = record {
  counted : l.number ≡ l.unit-index;
  done : AreDone (mode_alone l.alone) l.target.machine (naive_codes (take l.unit-index l.units)) l.work;
}
