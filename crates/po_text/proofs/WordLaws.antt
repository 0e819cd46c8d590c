-- The words of a line are what stands between its blanks.
use Rattle.std.proofs.Common.{◌≡◌, ℕ, suc, ◌+◌, ◌≤◌, ◌<◌, List, [], ◌∷◌, Bool, true, false, cond, refl, ap, sym, ◌∙◌}
use Rattle.std.proofs.Common.{subst, drop, length, get_or, arith, length-drop, ◌⊎◌, inl, inr}
use Rattle.std.specs.Prelude.{◌==◌}
use Rattle.std.proofs.lemmas.Bool.Decides.{nat_tests}
use Rattle.std.proofs.lemmas.List.{drop_more}
use Rattle.po_text.specs.Words.{is_blank, with_byte, words_from, AreBlank, NoneBlank, AreWordsFrom}
use Rattle.po_text.specs.declared.fault.Span.{Span}

-- the byte at a place, and what stands behind it
record First (line : List ℕ) (at byte : ℕ) (bytes : List ℕ) : Type 0 where
  within : at < length line
  here : get_or line at 0 ≡ byte
  later : drop (at + 1) line ≡ bytes

first_of : (line : List ℕ) (at byte : ℕ) (bytes : List ℕ) → drop at line ≡ byte ∷ bytes → First line at byte bytes
first_of line at byte bytes e =
    let long : length (drop at line) ≡ suc (length bytes) = ap length e in
    let within : at < length line = omega (arith, long, length-drop at line) in
    let same : get_or line at 0 ∷ drop (at + 1) line ≡ byte ∷ bytes = sym (drop_more line at 0 within) ∙ e in
    record { within = within; here = cc; later = cc }

at_end : (line : List ℕ) (at : ℕ) → drop at line ≡ [] → length line ≤ at
at_end line at e =
    let short : length (drop at line) ≡ 0 = ap length e in
    omega (arith, short, length-drop at line)

apart_or_same : (k at : ℕ) → at ≤ k → (k ≡ at) ⊎ (at + 1 ≤ k)
apart_or_same k at h = grind arith

one_blank_more : (line : List ℕ) (at to : ℕ) → is_blank (get_or line at 0) ≡ true → AreBlank line (at + 1) to
    → AreBlank line at to
one_blank_more line at to here later k low high =
    elim (apart_or_same k at low) [ inl e ↦ rw e here | inr more ↦ later k more high ]

one_byte_more : (line : List ℕ) (at to : ℕ) → is_blank (get_or line at 0) ≡ false → NoneBlank line (at + 1) to
    → NoneBlank line at to
one_byte_more line at to here later k low high =
    elim (apart_or_same k at low) [ inl e ↦ rw e here | inr more ↦ later k more high ]

no_gap : (line : List ℕ) (at : ℕ) → AreBlank line at at
no_gap line at k low high = absurd (omega arith)

no_bytes : (line : List ℕ) (at : ℕ) → NoneBlank line at at
no_bytes line at k low high = absurd (omega arith)

after_blank : (line : List ℕ) (at : ℕ) (words : List Span) → is_blank (get_or line at 0) ≡ true
    → AreWordsFrom (at + 1) line words → AreWordsFrom at line words
after_blank line at [] here rest = one_blank_more line at (length line) here rest
after_blank line at (word ∷ words) here rest =
    (omega arith, one_blank_more line at word.start here rest.1, rest.2, rest.3, rest.4, rest.5, rest.6)

alone : (line : List ℕ) (at : ℕ) (words : List Span) → at < length line → is_blank (get_or line at 0) ≡ false
    → (at + 1 < length line → is_blank (get_or line (at + 1) 0) ≡ true) → AreWordsFrom (at + 1) line words
    → AreWordsFrom at line (record { start = at; end = at + 1 } ∷ words)
alone line at words within here behind rest = (
  omega arith,
  no_gap line at,
  omega arith,
  omega arith,
  one_byte_more line at (at + 1) here (no_bytes line (at + 1)),
  behind,
  rest,
)

with_word : (joins : Bool) (line : List ℕ) (at : ℕ) (word : Span) (words : List Span) → (word.start == at + 1) ≡ joins
    → at < length line → is_blank (get_or line at 0) ≡ false → AreWordsFrom (at + 1) line (word ∷ words)
    → AreWordsFrom at line
    (cond joins (record { start = at; end = word.end } ∷ words) (record { start = at; end = at + 1 } ∷ (word ∷ words)))
with_word true line at word words joins within here rest =
    let next : word.start ≡ at + 1 = grind (arith, nat_tests) in
    let P : ℕ → Type 0 = λ start. NoneBlank line start word.end in
    let some : word.start < word.end = rest.2 in (
      omega arith,
      no_gap line at,
      omega arith,
      rest.3,
      one_byte_more line at word.end here (subst P next rest.4),
      rest.5,
      rest.6,
    )
with_word false line at word words joins within here rest =
    let low : at + 1 ≤ word.start = rest.0 in
    let next : at + 1 < word.start = grind (arith, nat_tests) in
    alone line at (word ∷ words) within here (λ _. rest.1 (at + 1) (omega arith) next) rest

with_words : (line : List ℕ) (at : ℕ) (words : List Span) → at < length line → is_blank (get_or line at 0) ≡ false
    → AreWordsFrom (at + 1) line words → AreWordsFrom at line (with_byte at words)
with_words line at [] within here rest = alone line at [] within here (λ more. rest (at + 1) (omega arith) more) rest
with_words line at (word ∷ words) within here rest =
    with_word (word.start == at + 1) line at word words refl within here rest

chosen : (blank : Bool) (line : List ℕ) (at : ℕ) (words : List Span) → is_blank (get_or line at 0) ≡ blank
    → at < length line → AreWordsFrom (at + 1) line words
    → AreWordsFrom at line (cond blank words (with_byte at words))
chosen true line at words here within rest = after_blank line at words here rest
chosen false line at words here within rest = with_words line at words within here rest

pub are_words : (bytes line : List ℕ) (at : ℕ) → drop at line ≡ bytes → AreWordsFrom at line (words_from at bytes)
are_words [] line at e = λ k low high. let long : length line ≤ at = at_end line at e in absurd (omega arith)
are_words (byte ∷ bytes) line at e =
    let first = first_of line at byte bytes e in
    chosen (is_blank byte) line at (words_from (at + 1) bytes) (ap is_blank first.here) first.within
    (are_words bytes line (at + 1) first.later)
