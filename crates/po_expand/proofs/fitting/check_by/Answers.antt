use Rattle.std.proofs.Common.{arith}
use Rattle.po_model.specs.Blocks.{code_of}
use Rattle.po_expand.proofs.Recognised.{block_few, checked}
use Rattle.po_expand.proofs.fitting.check_by.Goals as goal

pub check_blocks-requires-clause-few_instrs : goal.check_blocks-requires-clause-few_instrs
check_blocks-requires-clause-few_instrs c =
    λ b. rw c.deref.ensures.value
    (let few = block_few (code_of c.args.u.now.code) b _ c.requires.few_instrs in omega (arith, few))

pub returns : goal.returns
returns c =
    checked c.args.m.now (code_of c.args.u.now.code) c.in-Ok.lives.after.items c.check_blocks.result
    (λ b i h. c.in-Ok.ensures.live b i h)
    (rw (← c.deref-2.ensures.value, ← c.deref.ensures.value) c.check_blocks.ensures)
