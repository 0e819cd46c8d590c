-- The words of a line: what stands between spaces and tabs.
use Rattle.std.specs.Prelude.{◌≡◌, ℕ, ◌+◌, ◌<◌, ◌≤◌, Bool, true, false, ◌==◌, ◌||◌, List, [], ◌∷◌, length, slice_index}
use Rattle.std.specs.Prelude.{if◌then◌else◌}
use Rattle.po_text.specs.declared.fault.Span.{Span}

-- a space or a tab
abbrev pub is_blank : ℕ → Bool
is_blank byte = (byte == 32) || (byte == 9)

-- a byte that isn't blank belongs to the word that begins right behind it, and else is a word by itself
abbrev pub with_byte : ℕ → List Span → List Span
with_byte at [] = record { start = at; end = at + 1 } ∷ []
with_byte at (word ∷ words) =
    if word.start == at + 1 then record { start = at; end = word.end } ∷ words
    else record { start = at; end = at + 1 } ∷ (word ∷ words)

-- the words of the bytes that stand from a place on
abbrev pub words_from : ℕ → List ℕ → List Span
words_from at [] = []
words_from at (byte ∷ bytes) =
    if is_blank byte then words_from (at + 1) bytes else with_byte at (words_from (at + 1) bytes)

-- the words of a line
abbrev pub words_of : List ℕ → List Span
words_of line = words_from 0 line

-- each byte from one place up to another is blank
abbrev pub AreBlank : List ℕ → ℕ → ℕ → Type 0
AreBlank line from to = (k : ℕ) → from ≤ k → k < to → is_blank (slice_index line k) ≡ true

-- none of them is
abbrev pub NoneBlank : List ℕ → ℕ → ℕ → Type 0
NoneBlank line from to = (k : ℕ) → from ≤ k → k < to → is_blank (slice_index line k) ≡ false

-- what stands in a line from a place on: blanks, the bytes of the first word, a blank or the line's end behind it, and
-- so on with the next word; behind the last one blanks alone
abbrev pub AreWordsFrom : ℕ → List ℕ → List Span → Type 0
AreWordsFrom at line [] = AreBlank line at (length line)
AreWordsFrom at line (word ∷ words) =
    (at ≤ word.start) × AreBlank line at word.start
    × (word.start < word.end) × (word.end ≤ length line) × NoneBlank line word.start word.end
    × (word.end < length line → is_blank (slice_index line word.end) ≡ true)
    × AreWordsFrom word.end line words
