use Rattle.std.proofs.Common.{length, ap, ◌∙◌, arith}
use Rattle.po_live.specs.Parts.{part_tells}
use Rattle.po_live.proofs.Listed.{end_there, part_there}
use Rattle.po_live.proofs.parts.LiveList.at.Goals as goal

pub part_before-part-requires-clause-instr : goal.part_before-part-requires-clause-instr
part_before-part-requires-clause-instr c =
    omega (
      arith,
      end_there c.args.self.now.ends.items c.args.b c.index.result.now c.requires.block c.index.ensures,
      c.requires.instr,
    )

pub live_at-requires-clause-order : goal.live_at-requires-clause-order
live_at-requires-clause-order c =
    let p =
    part_there c.args.self.now c.args.b c.args.i c.index.result.now c.deref.result.now c.part_before-part.result
    c.requires.list c.requires.block c.requires.instr c.index.ensures c.deref.ensures.value
    c.part_before-part.ensures in
    p.0.order

pub live_at-requires-clause-inside : goal.live_at-requires-clause-inside
live_at-requires-clause-inside c =
    let p =
    part_there c.args.self.now c.args.b c.args.i c.index.result.now c.deref.result.now c.part_before-part.result
    c.requires.list c.requires.block c.requires.instr c.index.ensures c.deref.ensures.value
    c.part_before-part.ensures in
    omega (arith, p.0.inside, ap length c.deref-2.ensures.value)

pub returns : goal.returns
returns c =
    let p =
    part_there c.args.self.now c.args.b c.args.i c.index.result.now c.deref.result.now c.part_before-part.result
    c.requires.list c.requires.block c.requires.instr c.index.ensures c.deref.ensures.value
    c.part_before-part.ensures in
    c.live_at.ensures ∙ ap (λ rs. part_tells rs c.part_before-part.result) c.deref-2.ensures.value ∙ p.1
