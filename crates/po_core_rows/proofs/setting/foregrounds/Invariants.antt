use Rattle.std.proofs.Common.{All}
use Rattle.po_model.specs.UnitCodes.{IsFormedCode}
use Rattle.po_core.specs.Views.{codes_of}
use Rattle.po_core_rows.proofs.setting.foregrounds.Given as goal

abbrev pub invariant-loop : goal.invariant-loop
invariant-loop l = All (λ codes. All IsFormedCode (codes_of codes)) l.units.items
