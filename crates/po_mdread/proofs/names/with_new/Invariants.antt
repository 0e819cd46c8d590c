use Rattle.std.proofs.Common.{◌≡◌, map, drop}
use Rattle.po_lines.specs.Words.{seen}
use Rattle.po_mdread.specs.NameLines.{with_new}
use Rattle.po_mdread.proofs.names.with_new.Given as goal

-- the words that are left, behind the names so far
abbrev pub invariant-words : goal.invariant-words
invariant-words l = with_new l.names (map seen (drop l.word-index l.words)) ≡ with_new l.fn.names (map seen l.words)
