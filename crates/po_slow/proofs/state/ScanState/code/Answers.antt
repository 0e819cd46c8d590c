use Rattle.po_model.specs.Blocks.{code_of}
use Rattle.po_live.specs.Parts.{tells}
use Rattle.po_slow.proofs.Places.{finished_at}
use Rattle.po_slow.proofs.state.ScanState.code.Goals as goal

pub returns : goal.returns
returns c =
    let s = c.args.self in
    finished_at (code_of s.code) (tells s.lives) s.block s.at.done s.at.next s.at.changed c.requires.finished
