use Rattle.std.proofs.Common.{◌≡◌, take}
use Rattle.po_term.specs.Moves.{moves_of}
use Rattle.po_live.specs.Parts.{live_in}
use Rattle.po_model.specs.Scanned.{put_live}
use Rattle.po_slow.proofs.live.put_targets.Given as goal

abbrev pub invariant-loop-t : goal.invariant-loop-t
invariant-loop-t l = l.regs.keys ≡ put_live (live_in l.live) (moves_of (take l.t-index l.xs)) l.initial.regs.keys
