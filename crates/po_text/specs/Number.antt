-- The number that a word is: an optional minus sign, and 1 to 10 decimal digits.
use Rattle.std.specs.Prelude.{ℕ, ◌+◌, ◌-◌, ◌*◌, ◌^◌, ℤ, pos, neg_ℤ, Bool, ◌==◌, ◌&&◌, nat_le, List, [], ◌∷◌, length}
use Rattle.std.specs.Prelude.{Option, Some, None, option_map, if◌then◌else◌}
use Rattle.std.specs.Char.{is_ascii_digit}
use Rattle.std.specs.List.{list_all}

-- the value of digits: each counts as often as ten to the number of digits behind it
abbrev pub digits_value : List ℕ → ℕ
digits_value [] = 0
digits_value (digit ∷ digits) = (digit - 48) * 10 ^ length digits + digits_value digits

-- 1 to 10 decimal digits
abbrev pub are_digits : List ℕ → Bool
are_digits word = nat_le 1 (length word) && (nat_le (length word) 10 && list_all is_ascii_digit word)

-- the number that is written without a sign
abbrev pub natural_of : List ℕ → Option ℕ
natural_of word = if are_digits word then Some (digits_value word) else None

-- the number that a word is, if it is one
abbrev pub number_of : List ℕ → Option ℤ
number_of [] = None
number_of (first ∷ rest) =
    if first == 45 then option_map (λ value. neg_ℤ (pos value)) (natural_of rest)
    else option_map pos (natural_of (first ∷ rest))
