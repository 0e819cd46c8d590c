use Rattle.std.proofs.Common.{All, map, drop}
use Rattle.po_model.specs.Blocks.{code_of}
use Rattle.po_slow.specs.States.{scan_of, IsFormedState}
use Rattle.po_core.proofs.Starting.{FreshSoFar}
use Rattle.po_core.proofs.fresh.new_scans.Given as goal

-- the codes so far, and then the rest's
abbrev pub invariant-loop-c : goal.invariant-loop-c
invariant-loop-c l = record {
  fresh : FreshSoFar (map code_of l.codes) (map scan_of l.scans.items) (map code_of (drop l.c-index l.codes));
  formed : All IsFormedState l.scans.items;
}
