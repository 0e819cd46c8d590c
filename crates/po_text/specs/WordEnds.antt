-- One word and where it ends, as the functions say it that cut a line.
use Rattle.std.specs.Prelude.{ℕ, ◌+◌, nat_lt, List, [], ◌∷◌, if◌then◌else◌}
use Rattle.po_text.specs.Words.{is_blank}
use Rattle.po_text.specs.declared.fault.Span.{Span}

-- the word between two places, if it has a byte
abbrev pub word_between : ℕ → ℕ → List Span
word_between start end = if nat_lt start end then record { start = start; end = end } ∷ [] else []

-- how many bytes stand before the first blank
abbrev pub before_blank : List ℕ → ℕ
before_blank [] = 0
before_blank (byte ∷ bytes) = if is_blank byte then 0 else before_blank bytes + 1
