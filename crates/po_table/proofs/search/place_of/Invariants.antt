use Rattle.std.proofs.Common.{◌≢◌, take, All}
use Rattle.po_model.specs.Holed.{rule_of}
use Rattle.po_table.specs.Tables.{shared}
use Rattle.po_table.proofs.search.place_of.Given as goal

-- the rule is none of those so far
abbrev pub invariant-loop-i : goal.invariant-loop-i
invariant-loop-i l = All (λ s. s ≢ rule_of l.rule) (shared (take l.i l.rules))
