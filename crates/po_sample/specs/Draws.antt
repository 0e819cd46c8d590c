-- The generator of sample units: words of 64 bits, one after another, and what each says.
use Rattle.std.specs.Prelude.{ℕ, ◌+◌, ◌*◌, ◌^◌, ◌/◌, ◌%◌}

-- where the generator stands at the start of unit k
abbrev pub start : ℕ → ℕ → ℕ
start seed k = (seed + k * 11400714819323198485) % 2 ^ 64

-- its next word
abbrev pub step : ℕ → ℕ
step x = (x * 6364136223846793005 + 1442695040888963407) % 2 ^ 64

-- the number that is drawn there: the word's upper 31 bits
abbrev pub number : ℕ → ℕ
number x = x / 2 ^ 33

-- as the kind of a statement, 0 to 3
abbrev pub kind : ℕ → ℕ
kind x = number x % 4

-- as a place in the frame, 1 to 8
abbrev pub place : ℕ → ℕ
place x = 1 + number x % 8

-- as a constant, 0 to 399
abbrev pub constant : ℕ → ℕ
constant x = number x % 400
