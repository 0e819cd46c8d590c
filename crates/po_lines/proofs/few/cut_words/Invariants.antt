use Rattle.std.proofs.Common.{◌≡◌, ◌-◌, ◌≤◌, ◌++◌, map, take, drop, length}
use Rattle.po_text.specs.Words.{words_from}
use Rattle.po_lines.specs.Words as words
use Rattle.po_lines.proofs.few.cut_words.Given as goal

-- the words so far, and those from here on
abbrev pub invariant-words : goal.invariant-words
invariant-words l = record {
  within : l.count ≤ length l.room;
  cut : map words.seen (take l.count l.room) ++ map (words.word_at l.line) (words_from l.at (drop l.at l.line))
      ≡ words.words_in l.line;
}

abbrev pub decreases-words : goal.decreases-words
decreases-words l = length l.line - l.at
