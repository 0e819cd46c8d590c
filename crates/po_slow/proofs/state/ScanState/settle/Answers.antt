use Rattle.std.proofs.Common.{◌∙◌, sym, ap, subst}
use Rattle.po_model.specs.Combined.{combination_of}
use Rattle.po_model.specs.Scanned.{after_try}
use Rattle.po_slow.specs.States.{scan_of, IsFormedScan}
use Rattle.po_slow.proofs.Keeping.{formed_after_try}
use Rattle.po_slow.proofs.Written.{old_place, new_place, new_placed}
use Rattle.po_slow.proofs.MarksWritten.{beside_state, beside_slices}
use Rattle.po_slow.proofs.state.ScanState.settle.Goals as goal

pub returns-clause-formed : goal.returns-clause-formed
returns-clause-formed c =
    let s = c.args.self.now in
    let v = s.code.blocks in
    let lives = s.lives in
    let ws = c.settle_within.new.blocks in
    let xs = c.deref_mut.result.now in
    let at = c.settle_within.new.at in
    let same = new_place v ws xs lives c.settle_within.auto.blocks c.deref_mut.ensures.value s.block at
    ∙ (c.settle_within.ensures.place
    ∙ ap (after_try (combination_of c.args.o))
    (old_place v ws xs lives c.settle_within.auto.blocks c.deref_mut.ensures.value s.block s.at)) in
    record {
      placed =
          new_placed v ws xs lives c.settle_within.auto.blocks c.deref_mut.ensures.value s.block at
          c.settle_within.ensures.placed;
      formed =
          subst IsFormedScan (sym same)
          (formed_after_try (combination_of c.args.o) (scan_of s) c.requires.formed.formed c.requires.answer);
      beside =
          beside_state v s.marks xs ws c.deref_mut-2.result.now c.settle_within.new.marks c.deref_mut.ensures.value
          c.deref_mut-2.ensures.value c.settle_within.auto.blocks c.settle_within.auto.marks
          c.requires.formed.beside;
    }

pub settle_within-requires-clause-beside : goal.settle_within-requires-clause-beside
settle_within-requires-clause-beside c =
    let s = c.args.self.now in
    beside_slices s.code.blocks s.marks c.deref_mut.result.now c.deref_mut-2.result.now c.deref_mut.ensures.value
    c.deref_mut-2.ensures.value c.requires.formed.beside
