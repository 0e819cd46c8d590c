use Rattle.po_compile.proofs.Assigning.{IsAssigning}
use Rattle.po_compile.proofs.units.assign_all.Given as goal

abbrev pub invariant-loop-code : goal.invariant-loop-code
invariant-loop-code l = IsAssigning l.machine l.fn.codes.items l.code-iterator.rest.items l.all.items l.unit
