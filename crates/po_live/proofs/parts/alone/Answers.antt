use Rattle.std.proofs.Common.{map, ap, sym, ◌∙◌}
use Rattle.po_term.specs.Moves.{instrs_of}
use Rattle.po_model.specs.Blocks.{block_of, instrs_at}
use Rattle.po_live.specs.Sets.{holds, nothing}
use Rattle.po_live.proofs.Graphs.{instrs_there}
use Rattle.po_live.proofs.Held.{fp_alone}
use Rattle.po_live.proofs.Listed.{grown_same, list_more, none_more}
use Rattle.po_live.proofs.parts.alone.Goals as goal

pub loop-b-preserved : goal.loop-b-preserved
loop-b-preserved c =
    let code = map block_of c.args.blocks.now in
    let b = c.loop-b.b in
    let ends = c.empty-nothing.result in
    let there = ap instrs_of c.deref.ensures.value
    ∙ sym (instrs_there c.args.blocks.now b c.index-blocks-b.result c.loop-b-test.true) in
    record {
      list = list_more code (λ _. nothing) c.loop-b.list c.put_block.new.list b c.loop-b.invariant.list
          (grown_same (instrs_at code b) (instrs_of c.deref.result.now) (holds ends) nothing there
          c.empty-nothing.ensures c.in_ok-put_block.ensures.grown) c.in_ok-put_block.ensures.ends;
      none =
          none_more code b (holds c.put_block.new.live) (holds ends) (instrs_of c.deref.result.now) there
          c.loop-b.invariant.none c.empty-nothing.ensures c.in_ok-put_block.ensures.live
          (fp_alone c.put_block.new.live (sym c.has_more.ensures ∙ c.if-has_more.false));
    }
