-- The first line of a text, and the lines behind it.
use Rattle.std.proofs.Common.{◌≡◌, ℕ, ◌+◌, ◌≤◌, ◌<◌, List, [], ◌∷◌, Bool, true, false, refl, ap, ◌∙◌, subst, min}
use Rattle.std.proofs.Common.{length, take, drop, arith}
use Rattle.std.specs.Prelude.{cond, nat_lt, ◌==◌}
use Rattle.std.specs.List.{slice_split, onto_first, position, position_or_len}
use Rattle.std.specs.Str.Lines.{strip_carriage_return}
use Rattle.std.proofs.lemmas.Bool.Decides.{nat_tests}
use Rattle.std.proofs.lemmas.List.Splits.{slice_split_first}
use Rattle.std.proofs.lemmas.List.Folds.{length-prefix_len}
use Rattle.std.proofs.Math.ListN.{drop_of_length-le}
use Rattle.std.specs.Prelude.{not, Some, None}
use Rattle.std.specs.Option.{unwrap_or}
use Rattle.po_lines.specs.Lines.{is_feed, lines_at, lines_from, line_until}

whole_by : (b : Bool) (x : ℕ) (xs : List ℕ) → is_feed x ≡ b
    → (length xs ≤ position_or_len is_feed xs → slice_split is_feed xs ≡ xs ∷ [])
    → length (x ∷ xs) ≤ position_or_len is_feed (x ∷ xs) → slice_split is_feed (x ∷ xs) ≡ (x ∷ xs) ∷ []
whole_by true x xs e later h = let low = rw e at h in absurd (omega (arith, low))
whole_by false x xs e later h = let low = rw e at h in rw (e, later (omega (arith, low))) refl

-- without a line feed
whole : (xs : List ℕ) → length xs ≤ position_or_len is_feed xs → slice_split is_feed xs ≡ xs ∷ []
whole [] h = refl
whole (x ∷ xs) h = whole_by (is_feed x) x xs refl (whole xs) h

record Some_part (parts : List (List ℕ)) : Type 0 where
  first : List ℕ
  more : List (List ℕ)
  is : parts ≡ first ∷ more

onto_some : (x : ℕ) (parts : List (List ℕ)) → Some_part (onto_first x parts)
onto_some x [] = record { first = x ∷ []; more = []; is = refl }
onto_some x (p ∷ ps) = record { first = x ∷ p; more = ps; is = refl }

either_part : (b : Bool) (x : ℕ) (parts : List (List ℕ)) → Some_part (cond b ([] ∷ parts) (onto_first x parts))
either_part true x parts = record { first = []; more = parts; is = refl }
either_part false x parts = onto_some x parts

some_part : (xs : List ℕ) → Some_part (slice_split is_feed xs)
some_part [] = record { first = []; more = []; is = refl }
some_part (x ∷ xs) = either_part (is_feed x) x (slice_split is_feed xs)

two_parts : (n o : ℕ) (x : List ℕ) (parts : List (List ℕ)) → Some_part parts
    → lines_at n o (x ∷ parts)
    ≡ record { number = n; bytes = strip_carriage_return x; after = o + length x + 1 }
    ∷ lines_at (n + 1) (o + length x + 1) parts
two_parts n o x parts p = rw p.is refl

-- a line with its line feed
fed : (n o : ℕ) (rest : List ℕ) (k : ℕ) → k ≡ position_or_len is_feed rest → k < length rest
    → lines_from n o rest
    ≡ record { number = n; bytes = strip_carriage_return (take k rest); after = o + (k + 1) }
    ∷ lines_from (n + 1) (o + (k + 1)) (drop (k + 1) rest)
unfolding lines_from
fed n o rest k e h =
    let parts : List (List ℕ) = slice_split is_feed (drop (k + 1) rest) in
    let cut : slice_split is_feed rest ≡ take k rest ∷ parts =
    rw e (slice_split_first is_feed rest 0 (subst (λ (i : ℕ). i < length rest) e h)) in
    let long : length (take k rest) ≡ k = rw e (length-prefix_len (λ x. not (is_feed x)) rest) in
    let far : o + k + 1 ≡ o + (k + 1) = omega arith in
    rw cut (two_parts n o (take k rest) parts (some_part (drop (k + 1) rest)) ∙ rw (long, far) refl)

not_zero : (n : ℕ) → 0 < n → (n == 0) ≡ false
not_zero n h = grind (arith, nat_tests)

one_part : (n o : ℕ) (x : List ℕ) → 0 < length x
    → lines_at n o (x ∷ []) ≡ record { number = n; bytes = x; after = o + length x } ∷ []
one_part n o x h = rw (not_zero (length x) h) refl

-- the last line, which has none
unfed : (n o : ℕ) (rest : List ℕ) → length rest ≤ position_or_len is_feed rest → 0 < length rest
    → lines_from n o rest ≡ record { number = n; bytes = rest; after = o + length rest } ∷ []
unfolding lines_from
unfed n o rest h some = ap (lines_at n o) (whole rest h) ∙ one_part n o rest some

no_lines : (n o : ℕ) → lines_from n o [] ≡ []
unfolding lines_from
no_lines n o = refl

pub ended : (n o : ℕ) (rest : List ℕ) → length rest ≡ 0 → lines_from n o rest ≡ []
ended n o [] h = no_lines n o
ended n o (x ∷ xs) h = absurd (omega (arith, h))

first_by : (b : Bool) (n o : ℕ) (rest : List ℕ) (k : ℕ) → nat_lt k (length rest) ≡ b
    → k ≡ min (position_or_len is_feed rest) (length rest) → 0 < length rest
    → lines_from n o rest
    ≡ record {
      number = n;
      bytes = cond b (strip_carriage_return (take k rest)) rest;
      after = o + min (length rest) (k + 1);
    } ∷ lines_from (n + 1) (o + min (length rest) (k + 1)) (drop (min (length rest) (k + 1)) rest)
first_by true n o rest k t e some =
    let within : k < length rest = grind (arith, nat_tests) in
    let here : k ≡ position_or_len is_feed rest = omega arith in
    let taken : min (length rest) (k + 1) ≡ k + 1 = omega arith in
    rw taken (fed n o rest k here within)
first_by false n o rest k t e some =
    let beyond : length rest ≤ k = grind (arith, nat_tests) in
    let none : length rest ≤ position_or_len is_feed rest = omega arith in
    let taken : min (length rest) (k + 1) ≡ length rest = omega arith in
    let nothing : drop (length rest) rest ≡ [] = drop_of_length-le rest {i = length rest} (omega arith) in
    rw (taken, nothing, no_lines (n + 1) (o + length rest)) (unfed n o rest none some)

feed_by : (b : Bool) (p l : ℕ) → nat_lt p l ≡ b → unwrap_or (cond b (Some p) None) l ≡ min p l
feed_by true p l e = grind (arith, nat_tests)
feed_by false p l e = grind (arith, nat_tests)

-- where the first line feed stands, or the length
pub feed_is : (rest : List ℕ)
    → unwrap_or (position is_feed rest) (length rest) ≡ min (position_or_len is_feed rest) (length rest)
feed_is rest =
    feed_by (nat_lt (position_or_len is_feed rest) (length rest)) (position_or_len is_feed rest) (length rest) refl

-- the first line, and the lines behind it
pub first_line_is : (n o : ℕ) (rest : List ℕ) (k : ℕ) → k ≡ min (position_or_len is_feed rest) (length rest)
    → 0 < length rest
    → lines_from n o rest
    ≡ record { number = n; bytes = line_until rest k; after = o + min (length rest) (k + 1) }
    ∷ lines_from (n + 1) (o + min (length rest) (k + 1)) (drop (min (length rest) (k + 1)) rest)
first_line_is n o rest k e some = first_by (nat_lt k (length rest)) n o rest k refl e some
