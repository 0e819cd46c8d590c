use Rattle.std.proofs.Common.{All}
use Rattle.std.proofs.lemmas.List.Elements.{All-map}
use Rattle.po_model.specs.UnitCodes.{IsFormedCode}
use Rattle.po_core.specs.Views.{codes_of}
use Rattle.po_core_rows.proofs.setting.core.Goals as goal

pub new-requires-clause-codes : goal.new-requires-clause-codes
new-requires-clause-codes c = All-map (All IsFormedCode) codes_of c.in_ok-units.units.items c.in_ok-units.ensures
