use Rattle.std.proofs.Common.{All}
use Rattle.std.proofs.lemmas.List.Elements.{All-same, All-push}
use Rattle.po_model.specs.UnitCodes.{IsFormedCode}
use Rattle.po_core.specs.Views.{codes_of}
use Rattle.po_core_rows.proofs.setting.foregrounds.Goals as goal

pub loop-preserved : goal.loop-preserved
loop-preserved c = All-same (λ codes. All IsFormedCode (codes_of codes)) c.push.new.xs.items _ c.in_ok-push.ensures
    (All-push (λ codes. All IsFormedCode (codes_of codes)) c.loop.units.items c.in_ok-alone.field-0 c.loop.invariant
    c.in_ok-alone.ensures)
