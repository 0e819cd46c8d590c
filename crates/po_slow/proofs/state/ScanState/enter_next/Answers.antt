use Rattle.std.proofs.Common.{◌+◌, sym, subst}
use Rattle.po_model.specs.Blocks.{code_of}
use Rattle.po_slow.specs.States.{scan_of, IsFormedScan}
use Rattle.po_slow.proofs.Passing.{after_next, formed_cut, formed_enter_at}
use Rattle.po_slow.proofs.MarksWritten.{all_left}
use Rattle.po_slow.proofs.state.ScanState.enter_next.Goals as goal

pub returns-clause-goes_on : goal.returns-clause-goes_on
returns-clause-goes_on c =
    let s = c.args.self.now in
    after_next (code_of s.code) s.lives s.block s.at c.requires.closed (scan_of c.enter.new.self) c.requires.same_pass
    c.enter.ensures.scan

pub returns-clause-formed : goal.returns-clause-formed
returns-clause-formed c =
    let s = c.args.self.now in
    let lives = s.lives in
    record {
      placed = c.enter.ensures.placed;
      formed =
          subst IsFormedScan (sym c.enter.ensures.scan)
          (formed_enter_at (code_of s.code) lives (s.block + 1) s.at.changed
          (formed_cut (code_of s.code) lives s.block s.at c.requires.closed c.requires.formed.formed));
      beside = c.enter.ensures.beside;
    }

pub returns-clause-marks : goal.returns-clause-marks
returns-clause-marks c = λ m t.
    let s = c.args.self.now in
    c.enter.ensures.marks m
    (all_left m (code_of s.code) s.marks.items s.block s.at c.requires.closed t (s.block + 1) s.at.changed)
