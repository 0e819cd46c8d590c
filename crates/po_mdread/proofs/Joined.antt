-- Words with one space between two.
use Rattle.std.proofs.Common.{◌≡◌, ℕ, List, [], ◌∷◌, ◌++◌, ap, sym, append-nil}
use Rattle.std.specs.List.{flat_map, join_with_byte}

pub joined_is : (word : List ℕ) (words : List (List ℕ)) → join_with_byte 32 (word ∷ words) ≡ word
    ++ flat_map (λ (w : List ℕ). 32 ∷ w) words
joined_is word [] = sym (append-nil word)
joined_is word (w ∷ ws) = ap (λ (xs : List ℕ). word ++ (32 ∷ xs)) (joined_is w ws)
