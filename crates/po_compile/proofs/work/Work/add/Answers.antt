use Rattle.std.proofs.Common.{◌∙◌, sym}
use Rattle.po_model.specs.UnitCodes.{unit_of}
use Rattle.po_compile.proofs.Turning.{come_behind}
use Rattle.po_compile.proofs.work.Work.add.Goals as goal

pub returns-then-is_some-clause-come : goal.returns-then-is_some-clause-come
returns-then-is_some-clause-come c = λ made count come.
    come_behind c.args.target.now.machine made (unit_of c.args.code) c.args.self.now.crowd c.args.self.now.out.items
    (sym c.is_some.ensures ∙ c.if-is_some.true) come
