use Rattle.std.proofs.Common.{◌∙◌, length, map, sym, ap, subst}
use Rattle.po_model.specs.Blocks.{block_of, code_of}
use Rattle.po_slow.specs.States.{scan_by, cut, IsPlaced, IsCut, IsFormedScan}
use Rattle.po_slow.proofs.Places.{end_block, cut_same, cut_placed, cut_cut, cut_length}
use Rattle.po_slow.specs.Marks.{AllTrue}
use Rattle.po_slow.proofs.Written.{code_with}
use Rattle.po_slow.proofs.MarksWritten.{all_cut}
use Rattle.po_slow.proofs.state.ScanState.close.Goals as goal

pub returns-clause-same : goal.returns-clause-same
returns-clause-same c =
    let s = c.args.self.now in
    let e = code_with s.code.blocks c.cut_within.new.blocks
    (c.cut_within.auto.blocks ∙ ap length c.deref_mut.ensures.value)
    ∙ (c.cut_within.ensures ∙ ap (λ l. cut (map block_of l) s.block s.at.done) c.deref_mut.ensures.value) in
    ap (λ code. scan_by code s.lives s.block (record { done = s.at.done; next = s.at.done; changed = s.at.changed })) e
    ∙ cut_same (code_of s.code) s.lives s.block s.at c.requires.at_end

pub returns-clause-formed : goal.returns-clause-formed
returns-clause-formed c =
    let s = c.args.self.now in
    let e = code_with s.code.blocks c.cut_within.new.blocks
    (c.cut_within.auto.blocks ∙ ap length c.deref_mut.ensures.value)
    ∙ (c.cut_within.ensures ∙ ap (λ l. cut (map block_of l) s.block s.at.done) c.deref_mut.ensures.value) in
    record {
      placed =
          subst (λ code.
          IsPlaced code s.lives s.block (record { done = s.at.done; next = s.at.done; changed = s.at.changed }))
          (sym e) (cut_placed (code_of s.code) s.lives s.block s.at c.requires.formed.placed);
      formed = subst IsFormedScan (sym (returns-clause-same c)) c.requires.formed.formed;
      beside = c.requires.formed.beside ∙ (sym (cut_length (code_of s.code) s.block s.at.done) ∙ sym (ap length e));
    }

pub returns-clause-closed : goal.returns-clause-closed
returns-clause-closed c =
    let s = c.args.self.now in
    let e = code_with s.code.blocks c.cut_within.new.blocks
    (c.cut_within.auto.blocks ∙ ap length c.deref_mut.ensures.value)
    ∙ (c.cut_within.ensures ∙ ap (λ l. cut (map block_of l) s.block s.at.done) c.deref_mut.ensures.value) in
    subst (λ code. IsCut code s.block (record { done = s.at.done; next = s.at.done; changed = s.at.changed })) (sym e)
    (cut_cut (code_of s.code) s.lives s.block s.at
    (end_block (code_of s.code) s.lives s.block s.at c.requires.at_end) c.requires.formed.placed)

pub returns-clause-marks : goal.returns-clause-marks
returns-clause-marks c = λ m t.
    let s = c.args.self.now in
    let e = code_with s.code.blocks c.cut_within.new.blocks
    (c.cut_within.auto.blocks ∙ ap length c.deref_mut.ensures.value)
    ∙ (c.cut_within.ensures ∙ ap (λ l. cut (map block_of l) s.block s.at.done) c.deref_mut.ensures.value) in
    subst (λ code.
    AllTrue m code s.marks.items s.block (record { done = s.at.done; next = s.at.done; changed = s.at.changed }))
    (sym e) (all_cut m (code_of s.code) s.marks.items s.block s.at c.requires.formed.placed.done t)
