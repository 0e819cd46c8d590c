use Rattle.std.proofs.Common.{arith}
use Rattle.std.proofs.lemmas.List.{length-map}
use Rattle.po_model.specs.Blocks.{block_of, code_of}
use Rattle.po_live.specs.Parts.{tells}
use Rattle.po_slow.proofs.Over.{is_over}
use Rattle.po_slow.proofs.state.ScanState.is_finished.Goals as goal

pub returns : goal.returns
returns c =
    let s = c.args.self.now in
    is_over (code_of s.code) (tells s.lives) s.block s.at.done s.at.next s.at.changed c.len.result
    (omega (arith, length-map s.code.blocks.items block_of))
