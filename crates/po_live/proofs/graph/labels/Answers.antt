use Rattle.std.proofs.Common.{List, ◌∙◌, sym, map, drop, arith, length-drop}
use Rattle.std.proofs.lemmas.List.{length-map}
use Rattle.po_model.specs.declared.code.Block.{Block}
use Rattle.po_model.specs.Blocks.{block_of}
use Rattle.po_live.proofs.Graphs.{block_from_below}
use Rattle.po_live.proofs.graph.labels.Goals as goal

pub returns-clause-below : goal.returns-clause-below
returns-clause-below c = λ k q e.
    let rest : List Block = drop c.loop-b.b c.args.blocks.now in
    let h = block_from_below c.loop-b.b (map block_of rest) (record { 0 = k }) q
    (sym (c.loop-b.invariant.1 (record { 0 = k })) ∙ e) in
    omega (arith, h, length-map rest block_of, length-drop c.loop-b.b c.args.blocks.now)
