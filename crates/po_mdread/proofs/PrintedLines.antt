-- Lines that are printed with their line feeds are these lines again.
use Rattle.std.proofs.Common.{◌≡◌, ℕ, zero, suc, ◌+◌, ◌-◌, ◌≤◌, List, [], ◌∷◌, ◌++◌, true, false, refl, ap, ◌∙◌}
use Rattle.std.proofs.Common.{subst, length, length-append, take, drop, min, append_assoc, arith}
use Rattle.std.specs.Prelude.{◌==◌, nat_lt, slice_index}
use Rattle.std.specs.List.{AllByRecursion, position_or_len}
use Rattle.std.specs.Str.Lines.{strip_carriage_return}
use Rattle.std.proofs.lemmas.Bool.Decides.{nat_tests}
use Rattle.po_lines.specs.Lines.{Numbered, is_feed, line_until, lines_from}
use Rattle.po_lines.proofs.LineCuts.{ended, first_line_is}
use Rattle.po_mdread.specs.MachineText.{lines_text}

abbrev pub IsPlain : List ℕ → Type 0
IsPlain line = AllByRecursion (λ b. 32 ≤ b) line

no_feed : (b : ℕ) → 32 ≤ b → is_feed b ≡ false
no_feed b h = grind (arith, nat_tests)

no_return : (b : ℕ) → 32 ≤ b → (b == 13) ≡ false
no_return b h = grind (arith, nat_tests)

feed_behind : (x more : List ℕ) → IsPlain x → position_or_len is_feed (x ++ 10 ∷ more) ≡ length x
feed_behind [] more h = refl
feed_behind (b ∷ bs) more h =
    let no = no_feed b h.0 in
    let rest = feed_behind bs more h.1 in
    rw no (omega (arith, rest))

index_plain : (x : List ℕ) (i : ℕ) → IsPlain x → (slice_index x i == 13) ≡ false
index_plain [] i h = refl
index_plain (b ∷ bs) zero h = no_return b h.0
index_plain (b ∷ bs) (suc i) h = index_plain bs i h.1

strip_plain : (x : List ℕ) → IsPlain x → strip_carriage_return x ≡ x
strip_plain x h = rw (index_plain x (length x - 1) h) refl

first_part : (text more : List ℕ) → take (length text) (text ++ more) ≡ text
first_part [] more = refl
first_part (b ∷ bs) more = ap (λ (r : List ℕ). b ∷ r) (first_part bs more)

rest_part : (text more : List ℕ) (b : ℕ) → drop (suc (length text)) (text ++ b ∷ more) ≡ more
rest_part [] more b = refl
rest_part (c ∷ cs) more b = rest_part cs more b

until_plain : (x more : List ℕ) → IsPlain x → line_until (x ++ 10 ∷ more) (length x) ≡ x
until_plain x more h =
    let long = length-append x (10 ∷ more) in
    let within : nat_lt (length x) (length (x ++ 10 ∷ more)) ≡ true = grind (arith, nat_tests) in
    rw (within, first_part x (10 ∷ more)) (strip_plain x h)

line_by : (n o t : ℕ) (got x rest more : List ℕ) → got ≡ x → t ≡ length x + 1 → rest ≡ more
    → ◌≡◌ {A = List Numbered} (record { number = n; bytes = got; after = o + t } ∷ lines_from (n + 1) (o + t) rest)
    (record { number = n; bytes = x; after = o + length x + 1 } ∷ lines_from (n + 1) (o + length x + 1) more)
line_by n o t got x rest more e f g =
    let far : o + t ≡ o + length x + 1 = omega arith in
    rw (e, far, g) refl

one_line : (n o : ℕ) (x more : List ℕ) → IsPlain x → lines_from n o (x ++ 10 ∷ more) ≡ record {
  number = n;
  bytes = x;
  after = o + length x + 1;
} ∷ lines_from (n + 1) (o + length x + 1) more
one_line n o x more h =
    let all : List ℕ = x ++ 10 ∷ more in
    let long = length-append x (10 ∷ more) in
    let feed = feed_behind x more h in
    let at : length x ≡ min (position_or_len is_feed all) (length all) = omega arith in
    let taken : min (length all) (length x + 1) ≡ length x + 1 = omega arith in
    let next : suc (length x) ≡ min (length all) (length x + 1) = omega arith in
    let rest : drop (min (length all) (length x + 1)) all ≡ more = subst (λ (k : ℕ). drop k all ≡ more) next
    (rest_part x more 10) in
    first_line_is n o all (length x) at (omega arith) ∙ line_by n o (min (length all) (length x + 1))
    (line_until all (length x)) x (drop (min (length all) (length x + 1)) all) more (until_plain x more h) taken
    rest

-- these lines, the first with this number and at this offset
abbrev pub numbered : ℕ → ℕ → List (List ℕ) → List Numbered
numbered n o [] = []
numbered n o (x ∷ xs) = record { number = n; bytes = x; after = o + length x + 1 } ∷ numbered (n + 1)
    (o + length x + 1) xs

pub lines_again : (xs : List (List ℕ)) (n o : ℕ) → AllByRecursion IsPlain xs → lines_from n o (lines_text xs)
    ≡ numbered n o xs
lines_again [] n o h = ended n o [] refl
lines_again (x ∷ xs) n o h =
    ap (lines_from n o) (append_assoc x (10 ∷ []) (lines_text xs)) ∙ one_line n o x (lines_text xs) h.0
    ∙ ap (λ (ls : List Numbered). record { number = n; bytes = x; after = o + length x + 1 } ∷ ls)
    (lines_again xs (n + 1) (o + length x + 1) h.1)
