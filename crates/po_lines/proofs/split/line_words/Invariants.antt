use Rattle.std.proofs.Common.{◌≡◌, map, take}
use Rattle.po_lines.specs.Words as words
use Rattle.po_lines.proofs.split.line_words.Given as goal

-- the words so far
abbrev pub invariant-loop-span : goal.invariant-loop-span
invariant-loop-span l = map words.seen l.words.items ≡ map (words.word_at l.line) (take l.span-index l.span-items)
