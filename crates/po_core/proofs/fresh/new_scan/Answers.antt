use Rattle.std.proofs.Common.{IfOk, subst}
use Rattle.po_model.specs.Scanned.{IsPassStart}
use Rattle.po_slow.specs.States.{scan_of}
use Rattle.po_core.proofs.fresh.new_scan.Goals as goal

pub returns-clause-fresh : goal.returns-clause-fresh
returns-clause-fresh c =
    subst (λ code. IfOk c.new.result (λ s. IsPassStart code (scan_of s))) c.in_ok-copy.ensures c.new.ensures.starts
