use Rattle.std.proofs.lemmas.Result.{on_ok_weaker}
use Rattle.po_model.specs.declared.machine.Machine.{Machine}
use Rattle.po_slow.specs.Marks.{AreMarked}
use Rattle.po_slow.proofs.state.ScanState.next_block.Goals as goal

pub returns-clause-marks : goal.returns-clause-marks
returns-clause-marks c =
    let both : ((m : Machine) → AreMarked m c.close.new.self → AreMarked m c.leave.new.self)
    → (m : Machine) → AreMarked m c.args.self.now → AreMarked m c.leave.new.self
    = λ f m t. f m (c.close.ensures.marks m t) in
    on_ok_weaker _ both c.leave.ensures.marks
