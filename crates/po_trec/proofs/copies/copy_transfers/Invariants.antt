use Rattle.std.proofs.Common.{◌≡◌, take}
use Rattle.po_model.specs.Holed.{hole_moves_of}
use Rattle.po_trec.proofs.copies.copy_transfers.Given as goal

abbrev pub invariant-loop-t : goal.invariant-loop-t
invariant-loop-t l = hole_moves_of l.copies.items ≡ hole_moves_of (take l.t-index l.ts)
