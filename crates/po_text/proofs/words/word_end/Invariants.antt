use Rattle.std.proofs.Common.{length, ◌-◌, ◌≡◌, ◌+◌, ◌≤◌, drop}
use Rattle.po_text.specs.WordEnds.{before_blank}
use Rattle.po_text.proofs.words.word_end.Given as goal

-- from here the word ends at the same place
abbrev pub invariant-word : goal.invariant-word
invariant-word l = record {
  within : l.end ≤ length l.line;
  same : l.end + before_blank (drop l.end l.line) ≡ l.start + before_blank (drop l.start l.line);
}

abbrev pub decreases-word : goal.decreases-word
decreases-word l = length l.line - l.end
