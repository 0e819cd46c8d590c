use Rattle.po_model.specs.Blocks.{code_of}
use Rattle.po_model.specs.Combined.{combination_of}
use Rattle.po_slow.proofs.Keeping.{has_pair}
use Rattle.po_slow.proofs.state.scan_step.Goals as goal

pub settle-requires-clause-ready : goal.settle-requires-clause-ready
settle-requires-clause-ready c =
    let s = c.args.s.now in
    has_pair (code_of s.code) s.lives s.block s.at (combination_of c.args.o) c.requires.answer
