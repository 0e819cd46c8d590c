use Rattle.std.proofs.Common.{◌≡◌, ◌≤◌, ◌<◌, ℕ, drop, length, reverse}
use Rattle.po_recog.specs.Indexes.{first_with, links, number_at, heads}
use Rattle.po_recog.proofs.index.linked.Given as goal

-- the entries from i on are linked
abbrev pub invariant-loop-i : goal.invariant-loop-i
invariant-loop-i l = record {
  within : l.i ≤ length l.entries;
  many : length l.firsts ≡ 1280;
  firsts : (g : ℕ) → g < heads → number_at l.firsts g ≡ first_with g (drop l.i l.entries) l.i;
  nexts : reverse l.nexts.items ≡ links (drop l.i l.entries) l.i;
}

abbrev pub decreases-loop-i : goal.decreases-loop-i
decreases-loop-i l = l.i
