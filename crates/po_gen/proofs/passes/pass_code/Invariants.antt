use Rattle.std.proofs.Common.{◌≡◌}
use Rattle.po_model.specs.Blocks.{code_of}
use Rattle.po_slow.specs.States.{scan_of, IsFormedState}
use Rattle.po_slow.proofs.Work.{work}
use Rattle.po_table.specs.Tables.{rules_of}
use Rattle.po_gen.proofs.Passing.{IsPassing}
use Rattle.po_gen.proofs.passes.pass_code.Given as goal

-- the rules of all that was tried so far are learned
abbrev pub invariant-scan : goal.invariant-scan
invariant-scan g l = record {
  machine : l.table.0 ≡ l.initial.table.0;
  formed : IsFormedState l.s;
  passing : IsPassing l.initial.table.0 (code_of l.fn.code) (scan_of l.s) (rules_of l.initial.table)
      (rules_of l.table);
}

abbrev pub decreases-scan : goal.decreases-scan
decreases-scan g l = work (scan_of l.s)
