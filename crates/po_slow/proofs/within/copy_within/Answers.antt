use Rattle.std.proofs.Common.{◌≡◌, ◌<◌, length, subst, arith}
use Rattle.std.proofs.Common.{Some}
use Rattle.std.specs.Prelude.{IfOk}
use Rattle.std.proofs.lemmas.List.{length-map}
use Rattle.po_model.specs.Blocks.{block_of}
use Rattle.po_model.specs.Pairs.{pair_of}
use Rattle.po_slow.proofs.Written.{instrs_here, parts_here, ready_here}
use Rattle.po_slow.proofs.within.copy_within.Goals as goal

pub copy_pair-requires-clause-inside : goal.copy_pair-requires-clause-inside
copy_pair-requires-clause-inside c =
    let block : c.args.b < length c.args.blocks.now =
    omega (arith, c.requires.ready.block, length-map c.args.blocks.now block_of) in
    omega (
      arith,
      c.requires.ready.next,
      instrs_here c.args.blocks.now c.args.lives.now c.args.b c.index-blocks-b.result c.deref.result.now block
          c.deref.ensures.value,
    )

pub copy_pair-requires-clause-lives : goal.copy_pair-requires-clause-lives
copy_pair-requires-clause-lives c =
    let block : c.args.b < length c.args.blocks.now =
    omega (arith, c.requires.ready.block, length-map c.args.blocks.now block_of) in
    parts_here c.args.blocks.now c.args.lives.now c.args.b c.index-blocks-b.result c.deref.result.now c.args.at block
    c.deref.ensures.value c.requires.placed

pub returns : goal.returns
returns c =
    let block : c.args.b < length c.args.blocks.now =
    omega (arith, c.requires.ready.block, length-map c.args.blocks.now block_of) in
    let e = ready_here c.args.blocks.now c.args.lives.now c.args.b c.index-blocks-b.result c.deref.result.now c.args.at
    block c.deref.ensures.value c.requires.placed in
    subst (λ r. IfOk c.copy_pair.result (λ p. r ≡ Some (pair_of p))) e c.copy_pair.ensures
