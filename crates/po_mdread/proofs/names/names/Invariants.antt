use Rattle.std.proofs.Common.{◌≡◌, map, drop}
use Rattle.po_lines.specs.Words.{seen}
use Rattle.po_mdread.specs.NameLines.{names_in}
use Rattle.po_mdread.proofs.NameTurns.{prepend}
use Rattle.po_mdread.proofs.names.names.Given as goal

-- the names so far, in front of those that are left
abbrev pub invariant-words : goal.invariant-words
invariant-words l = prepend l.names (names_in (map seen (drop l.word-index l.words))) ≡ names_in (map seen l.words)
