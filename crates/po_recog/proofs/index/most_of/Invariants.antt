use Rattle.std.proofs.Common.{◌≡◌, drop, max}
use Rattle.po_recog.specs.Indexes.{most_transfers}
use Rattle.po_recog.proofs.index.most_of.Given as goal

-- the most so far, and what is to come
abbrev pub invariant-loop-e : goal.invariant-loop-e
invariant-loop-e l = max l.most (most_transfers (drop l.e-index l.entries)) ≡ most_transfers l.entries
