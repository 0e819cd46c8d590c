use Rattle.std.proofs.Common.{All, map}
use Rattle.po_model.specs.UnitCodes.{IsFormedCode}
use Rattle.po_core.specs.Views.{fore_of, codes_of, IsFormedFore}
use Rattle.po_core.proofs.Starting.{NewSoFar}
use Rattle.po_core.proofs.fresh.new_fores.Given as goal

-- the foregrounds so far, and then the rest's
abbrev pub invariant-loop-codes : goal.invariant-loop-codes
invariant-loop-codes l = record {
  rest : All (All IsFormedCode) (map codes_of l.codes-iterator.rest.items);
  new : NewSoFar (map codes_of l.fn.units.items) (map fore_of l.fores.items)
      (map codes_of l.codes-iterator.rest.items);
  formed : All IsFormedFore l.fores.items;
}
