use Rattle.std.proofs.Common.{◌≡◌, map, take}
use Rattle.po_live.proofs.cc.flags_of.Given as goal

abbrev pub invariant-loop-live : goal.invariant-loop-live
invariant-loop-live l = l.flags.items ≡ map (λ s. s.cc) (take l.live-index l.sets)
