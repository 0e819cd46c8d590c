use Rattle.std.proofs.Common.{map, ap, sym, ◌∙◌, arith}
use Rattle.po_term.specs.Moves.{instrs_of}
use Rattle.po_model.specs.Blocks.{block_of, instrs_at}
use Rattle.po_live.specs.Sets.{holds, holds_at}
use Rattle.po_live.proofs.Graphs.{instrs_there}
use Rattle.po_live.proofs.Outs.{set_at}
use Rattle.po_live.proofs.Listed.{grown_same, list_more}
use Rattle.po_live.proofs.parts.from_ends.Goals as goal

pub loop-b-preserved : goal.loop-b-preserved
loop-b-preserved c =
    let code = map block_of c.args.blocks.now in
    let b = c.loop-b.b in
    let there = ap instrs_of c.deref.ensures.value
    ∙ sym (instrs_there c.args.blocks.now b c.index-blocks-b.result c.loop-b-test.true) in
    list_more code (holds_at c.args.out.now) c.loop-b.list c.put_block.new.list b c.loop-b.invariant
    (grown_same (instrs_at code b) (instrs_of c.deref.result.now) (holds c.index-out-b.result)
    (holds_at c.args.out.now b) there
    (λ v. set_at c.args.out.now b c.index-out-b.result v (omega (arith, c.loop-b-test.true, c.requires))
    c.index-out-b.is) c.in_ok-put_block.ensures.grown) c.in_ok-put_block.ensures.ends
