-- A word from its start to the next blank, and then the words behind it.
use Rattle.std.proofs.Common.{◌≡◌, ℕ, zero, suc, ◌+◌, ◌≤◌, ◌<◌, List, [], ◌∷◌, ◌++◌, Bool, true, false, cond, refl, ap}
use Rattle.std.proofs.Common.{sym, ◌∙◌, drop, arith, add-one, append_assoc}
use Rattle.std.specs.Prelude.{nat_lt, ◌==◌, ⊤}
use Rattle.std.proofs.lemmas.Bool.Decides.{nat_tests}
use Rattle.std.proofs.lemmas.List.{drop-drop}
use Rattle.po_text.specs.Words.{is_blank, with_byte, words_from}
use Rattle.po_text.specs.WordEnds.{word_between, before_blank}
use Rattle.po_text.specs.declared.fault.Span.{Span}

-- the first word begins no earlier
abbrev FirstFrom : ℕ → List Span → Type 0
FirstFrom at [] = ⊤
FirstFrom at (word ∷ words) = at ≤ word.start

first_earlier : (at : ℕ) (words : List Span) → FirstFrom (at + 1) words → FirstFrom at words
first_earlier at [] h = tt
first_earlier at (word ∷ words) h = omega arith

first_joined : (joins : Bool) (at end : ℕ) (word : Span) (words : List Span)
    → FirstFrom at
    (cond joins (record { start = at; end = end } ∷ words) (record { start = at; end = at + 1 } ∷ (word ∷ words)))
first_joined true at end word words = omega arith
first_joined false at end word words = omega arith

first_with_byte : (at : ℕ) (words : List Span) → FirstFrom at (with_byte at words)
first_with_byte at [] = omega arith
first_with_byte at (word ∷ words) = first_joined (word.start == at + 1) at word.end word words

first_chosen : (blank : Bool) (at : ℕ) (words : List Span) → FirstFrom (at + 1) words
    → FirstFrom at (cond blank words (with_byte at words))
first_chosen true at words h = first_earlier at words h
first_chosen false at words h = first_with_byte at words

pub first_word : (bytes : List ℕ) (at : ℕ) → FirstFrom at (words_from at bytes)
first_word [] at = tt
first_word (byte ∷ bytes) at = first_chosen (is_blank byte) at (words_from (at + 1) bytes) (first_word bytes (at + 1))

no_word : (start end : ℕ) → end ≤ start → word_between start end ≡ []
no_word start end h = let e : nat_lt start end ≡ false = grind (arith, nat_tests) in rw e

one_word : (start end : ℕ) → start < end → word_between start end ≡ record { start = start; end = end } ∷ []
one_word start end h = let e : nat_lt start end ≡ true = grind (arith, nat_tests) in rw e

-- a byte before a later word is a word by itself
apart : (at from : ℕ) (words : List Span) → at + 1 < from → FirstFrom from words
    → with_byte at words ≡ record { start = at; end = at + 1 } ∷ words
apart at from [] h first = refl
apart at from (word ∷ words) h first = let e : (word.start == at + 1) ≡ false = grind (arith, nat_tests) in rw e

-- a byte right before a word belongs to it
joined : (at end : ℕ) (words : List Span)
    → with_byte at (record { start = at + 1; end = end } ∷ words) ≡ record { start = at; end = end } ∷ words
joined at end words = let e : (at + 1 == at + 1) ≡ true = grind (arith, nat_tests) in rw e

one_more : (at count : ℕ) (words : List Span) → FirstFrom (at + 1 + count + 1) words
    → with_byte at (word_between (at + 1) (at + 1 + count) ++ words) ≡ word_between at (at + (count + 1)) ++ words
one_more at zero words first =
    rw (no_word (at + 1) (at + 1 + zero) (omega arith), one_word at (at + (zero + 1)) (omega arith))
    (apart at (at + 1 + zero + 1) words (omega arith) first)
one_more at (suc count) words first =
    let same : at + 1 + suc count ≡ at + (suc count + 1) = omega arith in
    rw (one_word (at + 1) (at + 1 + suc count) (omega arith), one_word at (at + (suc count + 1)) (omega arith))
    (joined at (at + 1 + suc count) words
    ∙ ap (λ (end : ℕ). let word : Span = record { start = at; end = end } in word ∷ words) same)

drop_one : (n byte : ℕ) (bytes : List ℕ) → drop (n + 1) (byte ∷ bytes) ≡ drop n bytes
drop_one n byte bytes = rw add-one

next_step : (blank : Bool) (at count byte : ℕ) (bytes : List ℕ) (words : List Span)
    → words ≡ words_from (at + 1) bytes
    → words ≡ word_between (at + 1) (at + 1 + count) ++ words_from (at + 1 + count + 1) (drop (count + 1) bytes)
    → cond blank words (with_byte at words)
    ≡ word_between at (at + cond blank 0 (count + 1))
    ++ words_from (at + cond blank 0 (count + 1) + 1) (drop (cond blank 0 (count + 1) + 1) (byte ∷ bytes))
next_step true at count byte bytes words is e =
    let place : at + 1 ≡ at + 0 + 1 = omega arith in
    rw (no_word at (at + 0) (omega arith)) (is ∙ ap (λ (n : ℕ). words_from n bytes) place)
next_step false at count byte bytes words is e =
    let place : at + 1 + count + 1 ≡ at + (count + 1) + 1 = omega arith in
    let behind : List Span = words_from (at + 1 + count + 1) (drop (count + 1) bytes) in
    ap (with_byte at) e ∙ one_more at count behind (first_word (drop (count + 1) bytes) (at + 1 + count + 1))
    ∙ ap (λ (n : ℕ). word_between at (at + (count + 1)) ++ words_from n (drop (count + 1) bytes)) place
    ∙ ap (λ (rest : List ℕ). word_between at (at + (count + 1)) ++ words_from (at + (count + 1) + 1) rest)
    (sym (drop_one (count + 1) byte bytes))

-- the first word, and then those behind the blank that ends it
next_word : (bytes : List ℕ) (at : ℕ)
    → words_from at bytes
    ≡ word_between at (at + before_blank bytes)
    ++ words_from (at + before_blank bytes + 1) (drop (before_blank bytes + 1) bytes)
next_word [] at = rw (no_word at (at + 0) (omega arith))
next_word (byte ∷ bytes) at =
    next_step (is_blank byte) at (before_blank bytes) byte bytes (words_from (at + 1) bytes) refl
    (next_word bytes (at + 1))

-- the words so far and those from here on, one word later
pub behind_word : (line : List ℕ) (at end : ℕ) (so_far all : List Span) → end ≡ at + before_blank (drop at line)
    → so_far ++ words_from at (drop at line) ≡ all
    → (so_far ++ word_between at end) ++ words_from (end + 1) (drop (end + 1) line) ≡ all
behind_word line at end so_far all is e =
    let count : ℕ = before_blank (drop at line) in
    let place : at + (count + 1) ≡ end + 1 = omega (arith, is) in
    let rest : drop (count + 1) (drop at line) ≡ drop (end + 1) line =
    drop-drop (count + 1) at line ∙ ap (λ (n : ℕ). drop n line) place in
    append_assoc so_far (word_between at end) (words_from (end + 1) (drop (end + 1) line))
    ∙ ap (λ (words : List Span). so_far ++ words) (
    ap (λ (n : ℕ). word_between at n ++ words_from (n + 1) (drop (end + 1) line)) is
    ∙ ap (λ (bytes : List ℕ). word_between at (at + count) ++ words_from (at + count + 1) bytes) (sym rest)
    ∙ sym (next_word (drop at line) at))
    ∙ e
