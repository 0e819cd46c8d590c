-- What a call makes, and the questions that it puts onto a path.
use Rattle.std.specs.Prelude.{ℕ, Bool, ◌≡◌, ◌&&◌, not, if◌then◌else◌, List, [], ◌∷◌, ◌++◌, Result, IfOk}
use Rattle.std.specs.List.{list_any}
use Rattle.po_word.specs.declared.memory.OutOfMemory.{OutOfMemory}
use Rattle.po_word.specs.Exprs.{Expr, Ask}
use Rattle.po_term.specs.Kinds.{Met, exprs}
use Rattle.po_model.specs.declared.hole.PTerm.{PTerm}
use Rattle.po_model.specs.Holed.{HoleTree, hole_tree_of, Asked, asked_of}
use Rattle.po_model.specs.Generalised.{ask_eq, asks_hole}
use Rattle.po_tsimp.specs.declared.path.Path.{Path as QuestionPath}

abbrev pub path_of : QuestionPath → Asked
path_of p = asked_of p.asked.items

-- the question is among those kept
abbrev pub is_kept : Ask Expr → Asked → Bool
is_kept q kept = list_any (λ qa. ask_eq q qa.0) kept

-- the questions kept, with one more that is met: where it has a hole and isn't there yet
unfoldable pub note : List ℕ → Asked → Ask Expr → Asked
note ws kept q = if asks_hole q && not (is_kept q kept) then kept ++ (q, (exprs ws).says q) ∷ [] else kept

-- with each of these
abbrev pub extended : List ℕ → Asked → List (Ask Expr) → Asked
extended ws kept [] = kept
extended ws kept (q ∷ qs) = extended ws (note ws kept q) qs

-- on Ok: the result is what the table makes, and the path has the questions that were met
abbrev pub Makes : List ℕ → Result PTerm OutOfMemory → QuestionPath → QuestionPath → Met Expr HoleTree → Type 0
Makes ws result old new m =
    IfOk result (λ t. (hole_tree_of t ≡ m.got) × (path_of new ≡ extended ws (path_of old) m.asked))
