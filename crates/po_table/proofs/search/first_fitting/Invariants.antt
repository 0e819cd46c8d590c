use Rattle.std.proofs.Common.{take}
use Rattle.po_model.specs.Lookups.{NoneFits}
use Rattle.po_model.specs.Pairs.{pair_of}
use Rattle.po_table.specs.Tables.{shared}
use Rattle.po_table.proofs.search.first_fitting.Given as goal

-- none of the rules so far has the pair as an instance
abbrev pub invariant-loop-r : goal.invariant-loop-r
invariant-loop-r l = NoneFits (shared (take l.r-index l.rules)) (pair_of l.p)
