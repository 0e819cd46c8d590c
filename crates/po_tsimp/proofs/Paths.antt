-- Paths with more questions.
use Rattle.std.proofs.Common.{◌≡◌, ◌∷◌, [], ◌++◌, List, ℕ, Bool, refl, ap, append-nil}
use Rattle.std.specs.Prelude.{◌||◌}
use Rattle.std.specs.List.{list_any}
use Rattle.po_word.specs.declared.expression.Question.{Question}
use Rattle.po_word.specs.Exprs.{Ask, Expr}
use Rattle.po_word.specs.Views.{ask_of}
use Rattle.po_model.specs.Holed.{Asked, answered_of, asked_of}
use Rattle.po_model.specs.Generalised.{ask_eq, keep_asked, path}
use Rattle.po_tsimp.specs.Made.{is_kept, note, extended}

-- one more entry at the end
pub entries_more : (xs : List (Question × Bool)) (q : Question) (said : Bool) → asked_of (xs ++ (q, said) ∷ [])
    ≡ asked_of xs ++ (ask_of q, said) ∷ []
entries_more [] q said = refl
entries_more (x ∷ xs) q said = ap (λ zs. answered_of x ∷ zs) (entries_more xs q said)

-- the questions of one part and then those of the next
pub extended_append : (ws : List ℕ) (xs ys : List (Ask Expr)) (kept : Asked)
    → extended ws kept (xs ++ ys) ≡ extended ws (extended ws kept xs) ys
extended_append ws [] ys kept = refl
extended_append ws (q ∷ xs) ys kept = extended_append ws xs ys (note ws kept q)

-- an entry is found on the path as among the code's own entries
pub any_entry : (xs : List (Question × Bool)) (q : Ask Expr) → list_any (λ e. ask_eq q (ask_of e.0)) xs
    ≡ is_kept q (asked_of xs)
any_entry [] q = refl
any_entry (x ∷ xs) q = ap (λ b. ask_eq q (ask_of x.0) || b) (any_entry xs q)

-- the questions that a rule keeps
pub extended_path : (ws : List ℕ) (kept : Asked) (qs : List (Ask Expr)) → extended ws kept qs ≡ path ws kept qs
unfolding note
extended_path ws kept [] = refl
extended_path ws kept (q ∷ qs) = extended_path ws (keep_asked ws kept q) qs

-- no question more
pub extended_nothing : (ws : List ℕ) (xs : List (Ask Expr)) (kept : Asked)
    → extended ws kept (xs ++ []) ≡ extended ws kept xs
extended_nothing ws xs kept = ap (extended ws kept) (append-nil xs)
