use Rattle.std.proofs.Common.{sym, subst, false}
use Rattle.po_model.specs.Blocks.{code_of}
use Rattle.po_live.specs.Parts.{tells}
use Rattle.po_slow.specs.States.{scan_of, IsFormedScan}
use Rattle.po_slow.proofs.Passing.{after_last, formed_cut, formed_enter_at}
use Rattle.po_slow.proofs.MarksWritten.{all_left}
use Rattle.po_slow.proofs.state.ScanState.start_pass.Goals as goal

pub returns-clause-goes_on : goal.returns-clause-goes_on
returns-clause-goes_on c =
    let s = c.args.self.now in
    after_last (code_of s.code) s.lives s.block s.at c.requires.closed (scan_of c.enter.new.self) c.requires.last
    c.requires.changed
    (tells c.in_ok-self.field-0, c.in_ok-self.ensures.live, c.enter.ensures.scan)

pub returns-clause-formed : goal.returns-clause-formed
returns-clause-formed c =
    let s = c.args.self.now in
    let f = formed_cut (code_of s.code) s.lives s.block s.at c.requires.closed c.requires.formed.formed in
    record {
      placed = c.enter.ensures.placed;
      formed =
          subst IsFormedScan (sym c.enter.ensures.scan)
          (formed_enter_at (code_of s.code) c.in_ok-self.field-0 0 false f);
      beside = c.enter.ensures.beside;
    }

pub returns-clause-marks : goal.returns-clause-marks
returns-clause-marks c = λ m t.
    let s = c.args.self.now in
    c.enter.ensures.marks m
    (all_left m (code_of s.code) s.marks.items s.block s.at c.requires.closed t 0 false)
