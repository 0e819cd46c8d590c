-- The rule of the book in which a history stands, and what its steps tell.
use Rattle.std.specs.Prelude.{ℕ, ◌≡◌, ◌==◌, ◌<◌, true, List, [], ◌∷◌, ◌++◌, length, MatchBool}
use Rattle.logbook.specs.Pages.{Cell, Step, View, Book, Named}
use mathlib.Core.List.{IsPrefix}
use Rattle.po_model.specs.declared.rule.Rule.{Rule}

-- the first word is the length of the history. A book has two words, of which this one leaves the second at 0
pub record IsKept (cells : List Cell) (history : List Rule) : Type 0 where
  pub words : cells ≡ (length history, true) ∷ (0, true) ∷ []

abbrev pub head_of : Book → Named
head_of b = record { tracked = true; key = 0; book = b }

-- the rule was added behind all that had been seen; or the history was longer, and was seen
abbrev pub Adds : Step Rule → View Rule ℕ → ℕ → View Rule ℕ → Type 0
Adds s v found w = MatchBool (found == s.old) (w.0 ≡ v.0 ++ s.ask ∷ []) (length w.0 ≡ found)

-- ys begins with xs, and goes on
abbrev pub IsLonger : List Rule → List Rule → Type 0
IsLonger xs ys = IsPrefix xs ys × (length xs < length ys)
