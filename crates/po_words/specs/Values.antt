-- The values of options, as clap's matches have them.
use Rattle.std.specs.Prelude.{ℕ, ◌≡◌, ◌≤◌, Bool, true, false, List, Option, Some, None, find, option_and_then}
use Rattle.std.specs.Str.{bytes_eq}
use Rattle.clap.specs.Words.{Row, Text}
use Rattle.clap.specs.declared.parser.matches.ValueSource.{ValueSource}
use Rattle.clap.specs.declared.parser.matches.ValueSource.TheVariants.{CommandLine}
use Rattle.po_text.specs.Number.{natural_of}

-- the word is the number n: 1 to 10 decimal digits, from low to high
abbrev pub IsNumber : ℕ → ℕ → Text → ℕ → Type 0
IsNumber low high word n = (natural_of word ≡ Some n) × (low ≤ n) × (n ≤ high)

-- the value of an option is the number n
abbrev pub HasNumber : ℕ → ℕ → Option Text → ℕ → Type 0
HasNumber low high (Some value) n = IsNumber low high value n
HasNumber low high None n = ⊥

-- the same, where an option that is absent stands for a number
abbrev pub HasNumberOr : ℕ → ℕ → ℕ → Option Text → ℕ → Type 0
HasNumberOr absent low high (Some value) n = IsNumber low high value n
HasNumberOr absent low high None n = n ≡ absent

abbrev pub is_from_words : Option ValueSource → Bool
is_from_words (Some CommandLine) = true
is_from_words _ = false

-- the words give the option
abbrev pub is_given : Text → List Row → Bool
is_given name rows = is_from_words (option_and_then (λ row. row.source) (find (λ row. bytes_eq row.id name) rows))
