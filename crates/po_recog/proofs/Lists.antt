-- Lists from their first items and the rest.
use Rattle.std.proofs.Common.{◌≡◌, ◌≤◌, ◌-◌, ℕ, List, [], ◌∷◌, length, get_or, take, drop, refl, sym, ap, arith}
use Rattle.std.proofs.Common.{length-drop}
use Rattle.std.proofs.Math.Seq.{take-length}

-- what a slice from a place on holds
pub rest_whole : {X : Type 0} (xs : List X) (n : ℕ) → take (length xs - n) (drop n xs) ≡ drop n xs
rest_whole xs n = let e : length (drop n xs) ≡ length xs - n = length-drop n xs in rw (← e) (take-length (drop n xs))

pub first_of_list : {X : Type 0} (xs : List X) (x : X) → 1 ≤ length xs → x ≡ get_or xs 0 x → xs ≡ x ∷ drop 1 xs
first_of_list [] x n e = absurd (omega arith)
first_of_list (y ∷ ys) x n e = ap (λ z. z ∷ ys) (sym e)

pub no_items : {X : Type 0} (xs : List X) → length xs ≡ 0 → xs ≡ []
no_items [] e = refl
no_items (x ∷ xs) e = absurd (omega arith)
