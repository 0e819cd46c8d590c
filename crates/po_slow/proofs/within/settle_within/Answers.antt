use Rattle.std.proofs.Common.{◌∙◌, ◌<◌, length, arith}
use Rattle.std.proofs.lemmas.List.{length-map}
use Rattle.po_model.specs.Blocks.{block_of}
use Rattle.po_model.specs.Combined.{combination_of}
use Rattle.po_model.specs.Scanned.{settled}
use Rattle.po_slow.specs.States.{on}
use Rattle.po_slow.proofs.Written.{instrs_here, parts_here, place_written, placed_written, settled_within}
use Rattle.po_slow.proofs.MarksWritten.{true_here, true_written}
use Rattle.po_slow.proofs.within.settle_within.Goals as goal

pub settle-requires-clause-inside : goal.settle-requires-clause-inside
settle-requires-clause-inside c =
    omega (
      arith,
      c.requires.placed.next,
      instrs_here c.args.blocks.now c.args.lives.now c.args.b c.index-blocks-b.result c.deref_mut.result.now
          (omega (arith, c.requires.ready.block, length-map c.args.blocks.now block_of)) c.deref_mut.ensures.value,
    )

pub settle-requires-clause-lives : goal.settle-requires-clause-lives
settle-requires-clause-lives c =
    parts_here c.args.blocks.now c.args.lives.now c.args.b c.index-blocks-b.result c.deref_mut.result.now c.args.at.now
    (omega (arith, c.requires.ready.block, length-map c.args.blocks.now block_of)) c.deref_mut.ensures.value
    c.requires.placed

pub returns-clause-place : goal.returns-clause-place
returns-clause-place c =
    place_written c.args.blocks.now c.args.lives.now c.args.b c.index-blocks-b.result c.settle.new.xs
    c.deref_mut.result.now c.args.at.now c.settle.new.at (on (settled (combination_of c.args.o)))
    (omega (arith, c.requires.ready.block, length-map c.args.blocks.now block_of)) c.settle.auto.xs
    c.deref_mut.ensures.value c.requires.placed c.settle.ensures.settled
    ∙ settled_within _ _

pub returns-clause-placed : goal.returns-clause-placed
returns-clause-placed c =
    placed_written c.args.blocks.now c.args.lives.now c.args.b c.index-blocks-b.result c.settle.new.xs
    c.deref_mut.result.now c.args.at.now c.settle.new.at
    (omega (arith, c.requires.ready.block, length-map c.args.blocks.now block_of)) c.settle.auto.xs
    c.deref_mut.ensures.value c.requires.placed c.settle.ensures.order c.settle.ensures.inside

pub returns-clause-marks : goal.returns-clause-marks
returns-clause-marks c = λ m t.
    let at = c.args.at.now in
    let block : c.args.b < length c.args.blocks.now =
    omega (arith, c.requires.ready.block, length-map c.args.blocks.now block_of) in
    true_written c.args.blocks.now c.args.marks.now c.args.b c.index-blocks-b.result c.index-marks-b.result block
    c.requires.beside c.deref_mut.result.now c.deref_mut-2.result.now c.deref_mut.ensures.value
    c.deref_mut-2.ensures.value m c.settle.new.xs c.settle.new.marks at c.settle.new.at c.settle.auto.xs
    c.settle.auto.marks t (c.settle.ensures.marks m (λ e. tt) (true_here c.args.blocks.now c.args.marks.now c.args.b c.index-blocks-b.result
    c.index-marks-b.result block c.requires.beside c.deref_mut.result.now c.deref_mut-2.result.now
    c.deref_mut.ensures.value c.deref_mut-2.ensures.value m at t))
