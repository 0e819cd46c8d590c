use Rattle.std.proofs.Common.{◌∙◌, ap, sym, arith}
use Rattle.std.specs.Vec.{vec_len}
use Rattle.std.proofs.lemmas.List.{length-map}
use Rattle.po_model.specs.declared.code.Block.{Block}
use Rattle.po_model.specs.Blocks.{block_of}
use Rattle.po_slow.proofs.Written.{instrs_len}
use Rattle.po_rows.proofs.liveness.show_block.Goals as goal

-- each block has as many parts as instructions
pub show_parts-requires : goal.show_parts-requires
show_parts-requires c =
    let blocks = c.args.c.now.blocks.items in
    let r = c.index.result.now in
    let there = instrs_len blocks c.args.b r c.requires.block
    ∙ ap (λ (x : Block). vec_len x.instrs) (sym c.index.ensures) in
    record {
      list = c.requires.list;
      block = omega (arith, c.requires.block, c.requires.blocks, length-map blocks block_of);
      parts = omega (arith, c.requires.lengths c.args.b, there, c.len.ensures);
    }
