use Rattle.std.proofs.Common.{◌≡◌, ◌++◌, ℕ, List, drop}
use Rattle.std.specs.Prelude.{codes}
use Rattle.std.specs.List.{flat_map}
use Rattle.po_emit.specs.Texts.{piece_text}
use Rattle.po_emit.specs.Templates.{draft_text}
use Rattle.po_emit.proofs.templates.line_of.Given as goal

-- the pieces so far, and then the rest
abbrev pub invariant-loop-piece : goal.invariant-loop-piece
invariant-loop-piece l = (text : ℕ → List ℕ)
    → draft_text text l.draft ++ flat_map (piece_text text) (drop l.piece-index l.entry.template)
    ≡ codes "  " ++ flat_map (piece_text text) l.entry.template
