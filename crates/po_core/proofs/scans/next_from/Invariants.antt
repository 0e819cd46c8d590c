use Rattle.std.proofs.Common.{◌≤◌, ◌-◌, length}
use Rattle.po_core.proofs.Ending.{Passed}
use Rattle.po_core.proofs.scans.next_from.Given as goal

abbrev pub invariant-codes : goal.invariant-codes
invariant-codes l = record {
  order : l.from ≤ l.at;
  within : l.at ≤ length l.scans;
  passed : Passed l.scans l.from l.at;
}

abbrev pub decreases-codes : goal.decreases-codes
decreases-codes l = length l.scans - l.at
