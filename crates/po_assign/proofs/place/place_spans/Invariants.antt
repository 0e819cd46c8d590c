use Rattle.std.proofs.Common.{drop}
use Rattle.po_assign.proofs.Turns.{seen}
use Rattle.po_assign.proofs.Standing.{Standing}
use Rattle.po_assign.proofs.place.place_spans.Given as goal

abbrev pub invariant-loop-index : goal.invariant-loop-index
invariant-loop-index l = Standing l.count (seen l.spans) (seen (drop l.index l.spans)) l.ends.items l.regs.items
