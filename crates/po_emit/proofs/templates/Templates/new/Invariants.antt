use Rattle.std.proofs.Common.{◌≡◌, ◌++◌, ℕ, List, drop, map}
use Rattle.po_emit.specs.Templates.{line_text, entry_text}
use Rattle.po_emit.proofs.templates.Templates.new.Given as goal

-- the lines so far, and then the rest
abbrev pub invariant-loop-e : goal.invariant-loop-e
invariant-loop-e l = (text : ℕ → List ℕ)
    → map (line_text text) l.lines.items ++ map (entry_text text) (drop l.e-index l.m.entries)
    ≡ map (entry_text text) l.m.entries
