use Rattle.std.proofs.Common.{◌≡◌, ◌++◌, All, map, drop}
use Rattle.po_model.specs.UnitCodes.{IsUnitCode}
use Rattle.po_model.specs.Naive.{naive}
use Rattle.po_compile.specs.Steps.{units_of}
use Rattle.po_compile.proofs.units.expand_all.Given as goal

-- the codes so far, and then the rest's
abbrev pub invariant-loop-unit : goal.invariant-loop-unit
invariant-loop-unit l = record {
  naive : units_of l.codes.items ++ map naive (drop l.unit-index l.units) ≡ map naive l.units;
  formed : All IsUnitCode (units_of l.codes.items);
}
