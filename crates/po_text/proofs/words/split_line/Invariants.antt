use Rattle.std.proofs.Common.{length, ◌-◌, ◌≡◌, ◌++◌, drop}
use Rattle.po_text.specs.Words.{words_from, words_of}
use Rattle.po_text.proofs.words.split_line.Given as goal

-- the words so far, and those from here on
abbrev pub invariant-words : goal.invariant-words
invariant-words l = l.words.items ++ words_from l.at (drop l.at l.line) ≡ words_of l.line

abbrev pub decreases-words : goal.decreases-words
decreases-words l = length l.line - l.at
