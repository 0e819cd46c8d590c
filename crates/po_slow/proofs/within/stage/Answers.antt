use Rattle.std.proofs.Common.{◌<◌, length, map, arith}
use Rattle.std.proofs.lemmas.List.{length-map}
use Rattle.po_model.specs.Blocks.{block_of}
use Rattle.po_slow.proofs.Places.{at_end_done, at_end_next}
use Rattle.po_slow.proofs.Written.{instrs_len}
use Rattle.po_slow.proofs.within.stage.Goals as goal
use Rattle.po_slow.proofs.within.stage.Goals.{else-at-gt0-via-then-at-gt0+else-at-len, else-at-gt0-via-else-at-gt0}

pub returns-then-at-len : goal.returns-then-at-len
returns-then-at-len c = record {
  block = omega (arith, length-map c.args.blocks.now block_of);
  done = c.if-at-gt0.true;
  next = omega (arith, instrs_len c.args.blocks.now c.args.b c.index-blocks-b.result c.if-b-blocks.false);
}

pub returns-else-at-gt0 : goal.returns-else-at-gt0
returns-else-at-gt0 c =
    let block : c.args.b < length (map block_of c.args.blocks.now) =
    omega (arith, length-map c.args.blocks.now block_of) in (
      block,
      elim c.else-at-gt0.branch [
        | else-at-gt0-via-then-at-gt0+else-at-len w ↦
            at_end_next (map block_of c.args.blocks.now) c.args.lives.now c.args.b c.args.at block
            (omega (arith, instrs_len c.args.blocks.now c.args.b w.index-blocks-b.result c.if-b-blocks.false))
        | else-at-gt0-via-else-at-gt0 w ↦
            at_end_done (map block_of c.args.blocks.now) c.args.lives.now c.args.b c.args.at block c.requires.formed
            (omega (arith, w.if-at-gt0.false))
      ],
    )
