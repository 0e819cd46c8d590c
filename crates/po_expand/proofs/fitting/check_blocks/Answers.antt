use Rattle.std.proofs.Common.{below_more, map, arith}
use Rattle.po_model.specs.Blocks.{block_of, instrs_at}
use Rattle.po_term.specs.Moves.{instrs_of}
use Rattle.po_live.specs.Flags.{flags_at}
use Rattle.po_expand.specs.Checks.{AllFit}
use Rattle.po_expand.proofs.Recognised.{block_there, lives_there, lengths_here, few_here, blocks_refused, block_fits}
use Rattle.po_expand.proofs.fitting.check_blocks.Goals as goal

pub check_block-requires-clause-lengths : goal.check_block-requires-clause-lengths
check_block-requires-clause-lengths c =
    lengths_here (instrs_at (map block_of c.args.blocks.now) c.loop-b.b) (flags_at c.args.lives.now c.loop-b.b)
    c.deref-in-loop-b.result.now c.deref.result.now
    (lives_there c.args.lives.now c.loop-b.b c.index-lives-b.result c.deref-in-loop-b.result.now
    (omega (arith, c.loop-b-test.true, c.requires.blocks)) c.deref-in-loop-b.ensures.value c.index-lives-b.is)
    (block_there c.args.blocks.now c.loop-b.b c.index-blocks-b.result c.deref.result.now c.loop-b-test.true
    c.deref.ensures.value)
    (c.requires.lengths c.loop-b.b)

pub check_block-requires-clause-few : goal.check_block-requires-clause-few
check_block-requires-clause-few c =
    few_here (instrs_at (map block_of c.args.blocks.now) c.loop-b.b) c.deref.result.now _
    (block_there c.args.blocks.now c.loop-b.b c.index-blocks-b.result c.deref.result.now c.loop-b-test.true
    c.deref.ensures.value)
    (c.requires.few_instrs c.loop-b.b)

pub returns-in-Err : goal.returns-in-Err
returns-in-Err c =
    blocks_refused c.args.m.now c.args.lives.now (map block_of c.args.blocks.now) c.loop-b.b
    c.deref-in-loop-b.result.now (instrs_of c.deref.result.now) c.in-Err.refusal
    (lives_there c.args.lives.now c.loop-b.b c.index-lives-b.result c.deref-in-loop-b.result.now
    (omega (arith, c.loop-b-test.true, c.requires.blocks)) c.deref-in-loop-b.ensures.value c.index-lives-b.is)
    (block_there c.args.blocks.now c.loop-b.b c.index-blocks-b.result c.deref.result.now c.loop-b-test.true
    c.deref.ensures.value)
    c.loop-b.invariant
    c.in-Err.ensures

pub loop-b-preserved : goal.loop-b-preserved
loop-b-preserved c =
    below_more (λ d. AllFit c.args.m.now (flags_at c.args.lives.now d) (instrs_at (map block_of c.args.blocks.now) d))
    c.loop-b.b c.loop-b.invariant
    (block_fits c.args.m.now c.args.lives.now (map block_of c.args.blocks.now) c.loop-b.b c.deref-in-loop-b.result.now
    (instrs_of c.deref.result.now)
    (lives_there c.args.lives.now c.loop-b.b c.index-lives-b.result c.deref-in-loop-b.result.now
    (omega (arith, c.loop-b-test.true, c.requires.blocks)) c.deref-in-loop-b.ensures.value c.index-lives-b.is)
    (block_there c.args.blocks.now c.loop-b.b c.index-blocks-b.result c.deref.result.now c.loop-b-test.true
    c.deref.ensures.value)
    c.in-Ok.ensures)
