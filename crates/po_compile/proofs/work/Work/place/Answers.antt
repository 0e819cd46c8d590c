use Rattle.std.proofs.Common.{ap, sym, subst}
use Rattle.po_model.specs.declared.code.UnitCode.{UnitCode}
use Rattle.po_model.specs.Blocks.{IsCode}
use Rattle.po_model.specs.UnitCodes.{unit_of}
use Rattle.po_compile.specs.Output.{AllFit}
use Rattle.po_compile.proofs.Refused.{crowded}
use Rattle.po_compile.proofs.Turning.{come_written, come_crowded}
use Rattle.po_compile.proofs.work.Work.place.Goals as goal

pub returns-in_ok-fits-in-Ok-clause-come : goal.returns-in_ok-fits-in-Ok-clause-come
returns-in_ok-fits-in-Ok-clause-come c = λ made count none come.
    let text = c.in_ok-fits-in-Ok.ensures.ok in
    come_written c.args.target.now.machine made (unit_of c.args.code) c.in-Ok.placed c.args.self.now.crowd
    c.args.self.now.out.items c.emit_by.new.out.items text.0 none come c.in-Ok.ensures.uncrowded
    (ap unit_of c.in-Ok.ensures.unit) c.in-Ok.ensures.regs text.1 text.2

pub returns-in_ok-fits-in-Ok-clause-fits : goal.returns-in_ok-fits-in-Ok-clause-fits
returns-in_ok-fits-in-Ok-clause-fits c = λ all.
    subst (λ (u : UnitCode). AllFit c.args.target.now.machine (unit_of u)) c.in-Ok.ensures.unit
    (c.in_ok-fits-in-Ok.ensures.fits all)

pub returns-in-Err-TooFew-clause-come : goal.returns-in-Err-TooFew-clause-come
returns-in-Err-TooFew-clause-come c = λ made count none come.
    rw (c.in-Err-TooFew.point-is, c.in-Err-TooFew.needed-is)
    (come_crowded c.args.target.now.machine made (unit_of c.args.code) c.args.self.now.crowd
    c.args.self.now.out.items c.args.unit c.in-Err-TooFew.point c.in-Err-TooFew.needed none come
    (crowded c.args.target.now.machine (unit_of c.args.code) _ _ _ c.in-Err-TooFew.field-0-is
    c.in-Err-TooFew.ensures.refused) count c.args.self.now.out.items)

pub assign-requires-clause-code : goal.assign-requires-clause-code
assign-requires-clause-code c = c.requires.formed.placeable

pub emit_by-requires-clause-code : goal.emit_by-requires-clause-code
emit_by-requires-clause-code c = subst (λ (u : UnitCode). IsCode (unit_of u).code) (sym c.in-Ok.ensures.unit)
    c.requires.formed.placeable.form.ends_last

pub emit_by-requires-clause-index : goal.emit_by-requires-clause-index
emit_by-requires-clause-index c = c.requires.target.index

pub emit_by-requires-clause-templates : goal.emit_by-requires-clause-templates
emit_by-requires-clause-templates c = c.requires.target.templates
