use Rattle.po_compile.proofs.Written.{IsWriting}
use Rattle.po_compile.proofs.units.emit_all.Given as goal

-- the units so far are written
abbrev pub invariant-loop-placed : goal.invariant-loop-placed
invariant-loop-placed l = IsWriting l.machine l.all l.placed-index l.out.items
