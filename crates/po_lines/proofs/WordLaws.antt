-- Words that are printed with one space between two are these words again.
use Rattle.std.proofs.Common.{◌≡◌, ℕ, ◌+◌, ◌-◌, ◌≤◌, ◌<◌, List, [], ◌∷◌, ◌++◌, Bool, true, false, refl, ap, ◌∙◌, subst}
use Rattle.std.proofs.Common.{map, length, take, drop, arith, append_assoc, append-nil, length-append}
use Rattle.std.specs.Prelude.{◌==◌, cond, ⊤}
use Rattle.std.specs.List.{AllByRecursion, join_with_byte}
use Rattle.std.proofs.lemmas.Bool.Decides.{nat_tests}
use Rattle.po_text.specs.Words.{is_blank, with_byte, words_from, words_of}
use Rattle.po_text.specs.declared.fault.Span.{Span}
use Rattle.po_lines.specs.Words.{Placed, word_at, words_in}

-- a word has a byte, and no blank
pub record IsSolid (text : List ℕ) : Type 0 where
  pub some : 0 < length text
  pub solid : AllByRecursion (λ b. is_blank b ≡ false) text

abbrev pub bytes_of : Placed → List ℕ
bytes_of w = w.bytes

-- the first word begins here or later
abbrev BeginsFrom : ℕ → List Span → Type 0
BeginsFrom at [] = ⊤
BeginsFrom at (word ∷ words) = at ≤ word.start

later : (at : ℕ) (words : List Span) → BeginsFrom (at + 1) words → BeginsFrom at words
later at [] h = tt
later at (word ∷ words) h = omega (arith, h)

joined_by : (b : Bool) (at : ℕ) (word : Span) (words : List Span)
    → BeginsFrom at
    (cond b (record { start = at; end = word.end } ∷ words) (record { start = at; end = at + 1 } ∷ (word ∷ words)))
joined_by true at word words = omega arith
joined_by false at word words = omega arith

with_begins : (at : ℕ) (words : List Span) → BeginsFrom at (with_byte at words)
with_begins at [] = omega arith
with_begins at (word ∷ words) = joined_by (word.start == at + 1) at word words

begins_by : (b : Bool) (at : ℕ) (words : List Span) → BeginsFrom (at + 1) words
    → BeginsFrom at (cond b words (with_byte at words))
begins_by true at words h = later at words h
begins_by false at words h = with_begins at words

begins : (bytes : List ℕ) (at : ℕ) → BeginsFrom at (words_from at bytes)
begins [] at = tt
begins (byte ∷ bytes) at = begins_by (is_blank byte) at (words_from (at + 1) bytes) (begins bytes (at + 1))

-- no byte, or a blank
abbrev EndsWord : List ℕ → Type 0
EndsWord [] = ⊤
EndsWord (byte ∷ bytes) = is_blank byte ≡ true

apart : (start at : ℕ) → at + 1 + 1 ≤ start → (start == at + 1) ≡ false
apart start at h = grind (arith, nat_tests)

single_by : (at : ℕ) (words : List Span) → BeginsFrom (at + 1 + 1) words
    → with_byte at words ≡ record { start = at; end = at + 1 } ∷ words
single_by at [] h = refl
single_by at (word ∷ words) h = rw (apart word.start at h) refl

single : (rest : List ℕ) (at : ℕ) → EndsWord rest
    → with_byte at (words_from (at + 1) rest) ≡ record { start = at; end = at + 1 } ∷ words_from (at + 1) rest
single [] at h = refl
single (byte ∷ bytes) at h = rw h (single_by at (words_from (at + 1 + 1) bytes) (begins bytes (at + 1 + 1)))

next_to : (at : ℕ) → (at + 1 == at + 1) ≡ true
next_to at = grind (arith, nat_tests)

-- the bytes of a word, and what stands behind it
one_word : (b : ℕ) (bs rest : List ℕ) (at : ℕ) → is_blank b ≡ false → AllByRecursion (λ c. is_blank c ≡ false) bs
    → EndsWord rest
    → words_from at ((b ∷ bs) ++ rest)
    ≡ record { start = at; end = at + length bs + 1 } ∷ words_from (at + length bs + 1) rest
one_word b [] rest at h hs ends =
    let near : at + 0 + 1 ≡ at + 1 = omega arith in
    rw (h, near) (single rest at ends)
one_word b (c ∷ cs) rest at h hs ends =
    let further : at + 1 + length cs + 1 ≡ at + length (c ∷ cs) + 1 = omega arith in
    rw (h, one_word c cs rest (at + 1) hs.0 hs.1 ends, next_to at, further) refl

word_is : (text rest : List ℕ) (at : ℕ) → IsSolid text → EndsWord rest
    → words_from at (text ++ rest) ≡ record { start = at; end = at + length text } ∷ words_from (at + length text) rest
word_is [] rest at h ends = absurd (let some = h.some in omega (arith, some))
word_is (b ∷ bs) rest at h ends =
    let far : at + length bs + 1 ≡ at + length (b ∷ bs) = omega arith in
    subst (λ (e : ℕ). words_from at ((b ∷ bs) ++ rest) ≡ record { start = at; end = e } ∷ words_from e rest) far
    (one_word b bs rest at h.solid.0 h.solid.1 ends)

-- the bytes of a part of a line
abbrev cut : List ℕ → Span → List ℕ
cut line span = take (span.end - span.start) (drop span.start line)

behind_front : (front more : List ℕ) → drop (length front) (front ++ more) ≡ more
behind_front [] more = refl
behind_front (b ∷ bs) more = behind_front bs more

first_part : (text more : List ℕ) → take (length text) (text ++ more) ≡ text
first_part [] more = refl
first_part (b ∷ bs) more = ap (λ (r : List ℕ). b ∷ r) (first_part bs more)

cut_is : (front text rest : List ℕ)
    → cut (front ++ (text ++ rest)) (record { start = length front; end = length front + length text }) ≡ text
cut_is front text rest =
    let long : length front + length text - length front ≡ length text = omega arith in
    rw (long, behind_front front (text ++ rest)) (first_part text rest)

cuts_again : (texts : List (List ℕ)) (front : List ℕ) → AllByRecursion IsSolid texts
    → map (cut (front ++ join_with_byte 32 texts)) (words_from (length front) (join_with_byte 32 texts)) ≡ texts
cuts_again [] front h = refl
cuts_again (t ∷ []) front h =
    let line : List ℕ = front ++ t in
    let one : words_from (length front) t ≡ record { start = length front; end = length front + length t } ∷ [] =
    subst (λ (x : List ℕ).
    words_from (length front) x ≡ record { start = length front; end = length front + length t } ∷ [])
    (append-nil t) (word_is t [] (length front) h.0 tt) in
    let same : cut line (record { start = length front; end = length front + length t }) ≡ t =
    subst (λ (x : List ℕ). cut (front ++ x) (record { start = length front; end = length front + length t }) ≡ t)
    (append-nil t) (cut_is front t []) in
    ap (map (cut line)) one ∙ ap (λ (x : List ℕ). x ∷ []) same
cuts_again (t ∷ u ∷ us) front h =
    let rest : List ℕ = join_with_byte 32 (u ∷ us) in
    let line : List ℕ = front ++ (t ++ 32 ∷ rest) in
    let next : List ℕ = front ++ (t ++ 32 ∷ []) in
    let place : length next ≡ length front + length t + 1 =
    (let a = length-append front (t ++ 32 ∷ []) in let b = length-append t (32 ∷ []) in omega (arith, a, b)) in
    let whole : next ++ rest ≡ line =
    append_assoc front (t ++ 32 ∷ []) rest ∙ ap (λ (x : List ℕ). front ++ x) (append_assoc t (32 ∷ []) rest) in
    let later : map (cut line) (words_from (length front + length t + 1) rest) ≡ u ∷ us =
    rw (whole, place) at (cuts_again (u ∷ us) next h.1) in
    let split : words_from (length front) (t ++ 32 ∷ rest)
    ≡ record { start = length front; end = length front + length t }
    ∷ words_from (length front + length t + 1) rest =
    word_is t (32 ∷ rest) (length front) h.0 refl in
    ap (map (cut line)) split
    ∙ (ap (λ (x : List ℕ). x ∷ map (cut line) (words_from (length front + length t + 1) rest))
    (cut_is front t (32 ∷ rest)) ∙ ap (λ (xs : List (List ℕ)). t ∷ xs) later)

map_map : (line : List ℕ) (spans : List Span) → map bytes_of (map (word_at line) spans) ≡ map (cut line) spans
map_map line [] = refl
map_map line (s ∷ ss) = ap (λ (r : List (List ℕ)). cut line s ∷ r) (map_map line ss)

-- words with one space between two are these words
pub words_again : (texts : List (List ℕ)) → AllByRecursion IsSolid texts
    → map bytes_of (words_in (join_with_byte 32 texts)) ≡ texts
unfolding words_in
words_again texts h = map_map (join_with_byte 32 texts) (words_of (join_with_byte 32 texts)) ∙ cuts_again texts [] h
