use Rattle.std.proofs.Common.{map, sym, subst}
use Rattle.std.proofs.lemmas.Result.{on_ok_weaker}
use Rattle.po_model.specs.Blocks.{block_of}
use Rattle.po_slow.specs.States.{scan_by, IsTried, IsFormedScan, IsFormedState}
use Rattle.po_slow.proofs.Keeping.{formed_tried}
use Rattle.po_slow.proofs.Written.{old_place, new_place, new_placed}
use Rattle.po_slow.proofs.MarksWritten.{beside_state, beside_slices, true_slices, true_state}
use Rattle.po_slow.proofs.state.ScanState.try_pair.Goals as goal

pub returns-clause-formed : goal.returns-clause-formed
returns-clause-formed g c =
    let s = c.args.self.now in
    let v = s.code.blocks in
    let lives = s.lives in
    let ws = c.try_within.new.blocks in
    let xs = c.deref_mut.result.now in
    let at = c.try_within.new.at in
    let old = old_place v ws xs lives c.try_within.auto.blocks c.deref_mut.ensures.value s.block s.at in
    let new = new_place v ws xs lives c.try_within.auto.blocks c.deref_mut.ensures.value s.block at in
    let placed = new_placed v ws xs lives c.try_within.auto.blocks c.deref_mut.ensures.value s.block at
    c.try_within.ensures.placed in
    let formed : IsTried c.args.m.now (scan_by (map block_of xs) lives s.block s.at)
    (scan_by (map block_of ws) lives s.block at) → IsFormedState _
    =
    λ t. record {
      placed = placed;
      formed = subst IsFormedScan (sym new)
          (formed_tried c.args.m.now _ _ c.requires.machine (subst IsFormedScan (sym old) c.requires.formed.formed)
          t);
      beside =
          beside_state v s.marks xs ws c.deref_mut-2.result.now c.try_within.new.marks c.deref_mut.ensures.value
          c.deref_mut-2.ensures.value c.try_within.auto.blocks c.try_within.auto.marks c.requires.formed.beside;
    } in
    on_ok_weaker _ formed c.try_within.ensures.tried

pub try_within-requires-clause-beside : goal.try_within-requires-clause-beside
try_within-requires-clause-beside g c =
    let s = c.args.self.now in
    beside_slices s.code.blocks s.marks c.deref_mut.result.now c.deref_mut-2.result.now c.deref_mut.ensures.value
    c.deref_mut-2.ensures.value c.requires.formed.beside

pub try_within-requires-clause-marks : goal.try_within-requires-clause-marks
try_within-requires-clause-marks g c =
    let s = c.args.self.now in
    true_slices c.args.m.now s.code.blocks s.marks c.deref_mut.result.now c.deref_mut-2.result.now
    c.deref_mut.ensures.value c.deref_mut-2.ensures.value s.block s.at c.requires.marks

pub returns-clause-marks : goal.returns-clause-marks
returns-clause-marks g c =
    let s = c.args.self.now in
    on_ok_weaker _ (true_state c.args.m.now s.code.blocks s.marks c.deref_mut.result.now c.deref_mut-2.result.now
    c.deref_mut.ensures.value c.deref_mut-2.ensures.value s.block c.try_within.new.blocks c.try_within.new.marks
    c.try_within.new.at c.try_within.auto.blocks c.try_within.auto.marks) c.try_within.ensures.marks
