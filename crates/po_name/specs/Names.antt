-- Names.
use Rattle.std.specs.Prelude.{ℕ, List, [], ◌∷◌, length, Bool, false, nat_le, ◌&&◌, ◌||◌, ◌==◌, not}
use Rattle.std.specs.List.{list_all}

abbrev pub is_digit : ℕ → Bool
is_digit b = nat_le 48 b && nat_le b 57

-- a letter, a digit or `_`
abbrev pub is_name_byte : ℕ → Bool
is_name_byte b = (nat_le 97 b && nat_le b 122) || (nat_le 65 b && nat_le b 90) || is_digit b || b == 95

abbrev pub begins_name : List ℕ → Bool
begins_name [] = false
begins_name (b ∷ bs) = not (is_digit b)

-- 1 to 64 letters, digits and `_`, not beginning with a digit
abbrev pub is_name : List ℕ → Bool
is_name bs = nat_le (length bs) 64 && begins_name bs && list_all is_name_byte bs
