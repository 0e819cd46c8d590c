use Rattle.std.proofs.Common.{sym, subst, false, ◌∙◌, ap, length}
use Rattle.std.proofs.lemmas.List.{length-map}
use Rattle.po_model.specs.Blocks.{block_of, code_of}
use Rattle.po_slow.specs.States.{IsFormedScan}
use Rattle.po_slow.proofs.Passing.{formed_enter_at}
use Rattle.po_slow.proofs.MarksWritten.{all_none}
use Rattle.po_slow.proofs.state.ScanState.new.Goals as goal

pub returns-clause-formed : goal.returns-clause-formed
returns-clause-formed c =
    record {
      placed = c.enter.ensures.placed;
      formed =
          subst IsFormedScan (sym c.enter.ensures.scan)
          (formed_enter_at (code_of c.args.code) c.in_ok-lives.lives 0 false c.requires);
      beside = c.enter.ensures.beside;
    }

pub enter-requires-clause-beside : goal.enter-requires-clause-beside
enter-requires-clause-beside c =
    c.in_ok-marks.ensures.len
    ∙ (ap length c.deref.ensures.value ∙ sym (length-map _ block_of))

pub returns-clause-marks : goal.returns-clause-marks
returns-clause-marks c = λ m.
    c.enter.ensures.marks m
    (all_none m (code_of c.args.code) c.in_ok-marks.marks.items 0 (record { done = 0; next = 0; changed = false })
    c.in_ok-marks.ensures.none)
