-- Lists taken apart.
use Rattle.std.proofs.Common.{◌≡◌, ℕ, ◌+◌, ◌<◌, ◌≤◌, List, [], ◌∷◌, length, drop, get_or, ap, sym, add-one, drop-cons}
use Rattle.std.proofs.Common.{suc}
use Rattle.std.proofs.Math.ListN.{drop_of_length-le}

-- the next element, and those behind it
pub next_of : {X : Type 0} (xs : List X) (i : ℕ) (x : X) → i < length xs → x ≡ get_or xs i x
    → drop i xs ≡ x ∷ drop (i + 1) xs
next_of xs i x h e = rw (add-one, drop-cons xs i x h) (ap (λ y. y ∷ drop (suc i) xs) (sym e))

pub behind_all : {X : Type 0} (xs : List X) (i : ℕ) → length xs ≤ i → drop i xs ≡ []
behind_all xs i h = drop_of_length-le xs h
