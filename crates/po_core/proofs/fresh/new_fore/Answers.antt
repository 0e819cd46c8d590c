use Rattle.std.proofs.Common.{All, map, sym, subst}
use Rattle.po_model.specs.Blocks.{code_of}
use Rattle.po_model.specs.UnitCodes.{IsFormedCode}
use Rattle.po_core.proofs.fresh.new_fore.Goals as goal

pub new_scans-requires : goal.new_scans-requires
new_scans-requires c = subst (λ codes. All IsFormedCode (map code_of codes)) (sym c.deref.ensures.value) c.requires
