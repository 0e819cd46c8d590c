-- The innermost frame is the last of the code's list.
use Rattle.std.proofs.Common.{◌≡◌, List, [], ◌∷◌, ◌++◌, reverse, refl, false, ◌∙◌, ap}
use Rattle.std.proofs.lemmas.List.{reverse-append}
use Rattle.po_pattern.specs.Terms.{none_open}
use Rattle.po_pattern.specs.declared.part.Frame.{Frame}

pub reverse_next : {A : Type 0} (xs : List A) (x : A) → reverse (xs ++ x ∷ []) ≡ x ∷ reverse xs
reverse_next xs x = reverse-append xs (x ∷ [])

one_open : (xs : List Frame) (x : Frame) → none_open (xs ++ x ∷ []) ≡ false
one_open [] x = refl
one_open (y ∷ ys) x = refl

pub none_reversed : (xs : List Frame) → none_open (reverse xs) ≡ none_open xs
none_reversed [] = refl
none_reversed (x ∷ xs) = ap none_open (reverse-append (x ∷ []) xs) ∙ one_open (reverse xs) x
