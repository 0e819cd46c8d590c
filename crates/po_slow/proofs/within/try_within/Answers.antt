use Rattle.std.proofs.Common.{◌<◌, length, arith}
use Rattle.std.proofs.lemmas.Result.{on_ok_weaker}
use Rattle.std.proofs.lemmas.List.{length-map}
use Rattle.po_model.specs.Blocks.{block_of}
use Rattle.po_slow.proofs.Written.{instrs_here, parts_here, placed_written, tried_written}
use Rattle.po_slow.proofs.MarksWritten.{true_here, true_written}
use Rattle.po_slow.proofs.within.try_within.Goals as goal

pub try_pair-requires-clause-inside : goal.try_pair-requires-clause-inside
try_pair-requires-clause-inside g c =
    omega (
      arith,
      c.requires.placed.next,
      instrs_here c.args.blocks.now c.args.lives.now c.args.b c.index-blocks-b.result c.deref_mut.result.now
          (omega (arith, c.requires.ready.block, length-map c.args.blocks.now block_of)) c.deref_mut.ensures.value,
    )

pub try_pair-requires-clause-lives : goal.try_pair-requires-clause-lives
try_pair-requires-clause-lives g c =
    parts_here c.args.blocks.now c.args.lives.now c.args.b c.index-blocks-b.result c.deref_mut.result.now c.args.at.now
    (omega (arith, c.requires.ready.block, length-map c.args.blocks.now block_of)) c.deref_mut.ensures.value
    c.requires.placed

pub returns-clause-tried : goal.returns-clause-tried
returns-clause-tried g c =
    let block : c.args.b < length c.args.blocks.now =
    omega (arith, c.requires.ready.block, length-map c.args.blocks.now block_of) in
    on_ok_weaker _ (tried_written c.args.blocks.now c.args.lives.now c.args.b c.index-blocks-b.result c.args.m.now
    c.try_pair.new.xs c.deref_mut.result.now c.args.at.now c.try_pair.new.at
    block c.try_pair.auto.xs c.deref_mut.ensures.value c.requires.placed) c.try_pair.ensures.tried

pub returns-clause-placed : goal.returns-clause-placed
returns-clause-placed g c =
    let block : c.args.b < length c.args.blocks.now =
    omega (arith, c.requires.ready.block, length-map c.args.blocks.now block_of) in
    placed_written c.args.blocks.now c.args.lives.now c.args.b c.index-blocks-b.result c.try_pair.new.xs
    c.deref_mut.result.now c.args.at.now c.try_pair.new.at
    block c.try_pair.auto.xs c.deref_mut.ensures.value c.requires.placed c.try_pair.ensures.order
    c.try_pair.ensures.inside

pub try_pair-requires-clause-marks : goal.try_pair-requires-clause-marks
try_pair-requires-clause-marks g c =
    let block : c.args.b < length c.args.blocks.now =
    omega (arith, c.requires.ready.block, length-map c.args.blocks.now block_of) in
    true_here c.args.blocks.now c.args.marks.now c.args.b c.index-blocks-b.result c.index-marks-b.result block
    c.requires.beside c.deref_mut.result.now c.deref_mut-2.result.now c.deref_mut.ensures.value
    c.deref_mut-2.ensures.value c.args.m.now c.args.at.now c.requires.marks

pub returns-clause-marks : goal.returns-clause-marks
returns-clause-marks g c =
    let block : c.args.b < length c.args.blocks.now =
    omega (arith, c.requires.ready.block, length-map c.args.blocks.now block_of) in
    on_ok_weaker _ (true_written c.args.blocks.now c.args.marks.now c.args.b c.index-blocks-b.result
    c.index-marks-b.result block c.requires.beside c.deref_mut.result.now c.deref_mut-2.result.now
    c.deref_mut.ensures.value c.deref_mut-2.ensures.value c.args.m.now c.try_pair.new.xs c.try_pair.new.marks
    c.args.at.now c.try_pair.new.at c.try_pair.auto.xs c.try_pair.auto.marks c.requires.marks)
    c.try_pair.ensures.marks
