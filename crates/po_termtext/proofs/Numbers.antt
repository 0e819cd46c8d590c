-- Numbers and constants: what a word is read as is what it prints.
use Rattle.std.proofs.Common.{◌≡◌, ℕ, ◌-◌, ◌≤◌, ◌<◌, ◌^◌, List, [], ◌∷◌, Result, Ok, Err, true, false, Bool, Option}
use Rattle.std.proofs.Common.{Some, None, refl, sym, ap, ◌∙◌, subst, arith, rules, length, get_or, suc, zero, ◌⊎◌}
use Rattle.std.proofs.Common.{inl, inr}
use Rattle.std.specs.Prelude.{◌&&◌, nat_le, nat_lt, ◌==◌, not}
use Rattle.std.specs.List.{list_all}
use Rattle.std.specs.Str.{IsUtf8}
use Rattle.std.specs.Result.{OkIff}
use Rattle.std.specs.Str.Parse.{digits_value, digits_value_after, ParsesUnsigned}
use Rattle.std.proofs.lemmas.Str.Parse.{IsNumeralModel, numerals_by_fold, parse_digits}
use Rattle.std.proofs.lemmas.Bool.Decides.{nat_tests}
use Rattle.std.proofs.lemmas.Str.{IsUtf8-from_ascii}
use Rattle.std.specs.Fmt.{decimal, signed_decimal}
use Rattle.std.specs.Int.{w32, cast_signed}
use Rattle.std.proofs.lemmas.Int.{ints}
use Rattle.std.proofs.lemmas.Fmt.{digits_decimal, digits_value-decimal, decimal-digits_value, decimal_nonempty}
use Rattle.std.proofs.lemmas.Fmt.{first_decimal, decimal_digit}
use lib.IntN.{pos}
use Rattle.po_termtext.specs.TermText.{const_text}
use Rattle.po_termtext.specs.Reading.{◌>>=◌, is_digit, begins_well, number_in, const_in, positive_in, negative_in}
use Rattle.po_termtext.proofs.Options.{both, chosen, bound}

pub own : IsNumeralModel (λ ds. list_all is_digit ds ≡ true) (digits_value_after 10 0)
own = numerals_by_fold _ (search rules) (digits_value_after 10) (search rules)

small : (b : ℕ) → is_digit b ≡ true → b < 128
small b h = grind (arith, nat_tests)

ascii : (ds : List ℕ) → list_all is_digit ds ≡ true → (i : ℕ) → get_or ds i 0 < 128
ascii [] h i = omega arith
ascii (d ∷ ds) h zero = small d (both (is_digit d) (list_all is_digit ds) h).0
ascii (d ∷ ds) h (suc i) = ascii ds (both (is_digit d) (list_all is_digit ds) h).1 i

-- digits are a text
pub digits_utf8 : (ds : List ℕ) → list_all is_digit ds ≡ true → IsUtf8 ds
digits_utf8 ds h = IsUtf8-from_ascii ds (ascii ds h)

some_digit : (ds : List ℕ) → begins_well ds ≡ true → 0 < length ds
some_digit [] h = cc
some_digit (d ∷ ds) h = omega arith

not_below : (n k : ℕ) → (n < k → ⊥) → nat_lt n k ≡ false
not_below n k h = grind (arith, nat_tests)

refused : {E : Type 0} (ds : List ℕ) (r : Result ℕ E) (e : E) → r ≡ Err e
    → OkIff r ((0 < length ds) × (digits_value 10 ds < 2 ^ 32)) (digits_value 10 ds) → 0 < length ds
    → nat_lt (digits_value 10 ds) (2 ^ 32) ≡ false
refused ds (Ok n) e is h some = cc
refused ds (Err f) e is h some = not_below (digits_value 10 ds) (2 ^ 32) (λ below. h (some, below))

-- digits that are not parsed are no number
pub unparsed : {E : Type 0} (ds : List ℕ) (r : Result ℕ E) (e : E) → r ≡ Err e → ParsesUnsigned 32 10 ds r
    → list_all is_digit ds ≡ true → begins_well ds ≡ true → None ≡ number_in ds
unfolding number_in
unparsed ds r e is h digits front = rw (
  digits,
  front,
  refused ds r e is (parse_digits own 32 ds r h digits)
      (some_digit ds front),
) refl

-- the first digit is 0 only where it is the only one
abbrev OneZero : List ℕ → Type 0
OneZero ds = get_or ds 0 0 ≡ 48 → length ds ≡ 1

one_zero : (ds : List ℕ) → begins_well ds ≡ true → OneZero ds
one_zero [] h = cc
one_zero (d ∷ []) h = λ e. refl
one_zero (d ∷ e ∷ ds) h = λ zero_first. grind (arith, nat_tests)

well : (ds : List ℕ) → 0 < length ds → OneZero ds → begins_well ds ≡ true
well [] some h = absurd (omega arith)
well (d ∷ []) some h = refl
well (d ∷ e ∷ ds) some h = two_digits d (λ same. let two : suc (suc (length ds)) ≡ 1 = h same in omega (arith, two))
  where
    two_digits : (d : ℕ) → (d ≡ 48 → ⊥) → not (d == 48) ≡ true
    two_digits d h = grind (arith, nat_tests)

decimal_zero : (n : ℕ) → n < 2 ^ 64 → OneZero (decimal n)
decimal_zero zero h = λ e. ap length (decimal_digit 0 (omega arith))
decimal_zero (suc n) h = λ e. let more : 48 < get_or (decimal (suc n)) 0 0 = first_decimal (suc n) (omega arith) h in
    absurd (omega (arith, more, e))

word_size : (n : ℕ) → n < 2 ^ 32 → n < 2 ^ 64
word_size n h = omega arith

below : (n k : ℕ) → n < k → nat_lt n k ≡ true
below n k h = grind (arith, nat_tests)

is_below : (n k : ℕ) → nat_lt n k ≡ true → n < k
is_below n k h = grind (arith, nat_tests)

-- what is read as a number is its decimal
pub number_found : (ds : List ℕ) (n : ℕ) → number_in ds ≡ Some n → (n < 2 ^ 32) × (ds ≡ decimal n)
unfolding number_in
number_found ds n e =
    let value : ℕ = digits_value 10 ds in
    elim (chosen ((list_all is_digit ds && begins_well ds) && nat_lt (digits_value 10 ds) (2 ^ 32))
    (Some (digits_value 10 ds)) None (Some n) e) [
      | inl h ↦
          let parts = both (list_all is_digit ds && begins_well ds) (nat_lt (digits_value 10 ds) (2 ^ 32)) h.0 in
          let front = both (list_all is_digit ds) (begins_well ds) parts.0 in
          let size : digits_value 10 ds < 2 ^ 32 = is_below (digits_value 10 ds) (2 ^ 32) parts.1 in
          let same : digits_value 10 ds ≡ n = cc in
          let text : decimal (digits_value 10 ds) ≡ ds = decimal-digits_value own ds front.0 (some_digit ds front.1)
          (one_zero ds front.1) (word_size (digits_value 10 ds) size) in
          (subst (λ (k : ℕ). k < 2 ^ 32) same size, sym text ∙ ap decimal same)
      | inr h ↦ cc
    ]

-- a decimal is read as its number
pub number_again : (n : ℕ) → n < 2 ^ 32 → number_in (decimal n) ≡ Some n
unfolding number_in
number_again n h =
    let long = word_size n h in
    let digits : list_all is_digit (decimal n) ≡ true = digits_decimal own n long in
    let front : begins_well (decimal n) ≡ true = well (decimal n) (decimal_nonempty n long) (decimal_zero n long) in
    let value : digits_value 10 (decimal n) ≡ n = digits_value-decimal own n long in
    rw (digits, front, value, below n (2 ^ 32) h) refl

-- the digits of a decimal
pub decimal_digits : (n : ℕ) → n < 2 ^ 32 → list_all is_digit (decimal n) ≡ true
decimal_digits n h = digits_decimal own n (word_size n h)

pub decimal_some : (n : ℕ) → n < 2 ^ 32 → 0 < length (decimal n)
decimal_some n h = decimal_nonempty n (word_size n h)

digit_range : (b : ℕ) → is_digit b ≡ true → (48 ≤ b) × (b ≤ 57)
digit_range b h = (grind (arith, nat_tests), grind (arith, nat_tests))

-- the first of some digits
pub head_digit : (ds : List ℕ) → list_all is_digit ds ≡ true → 0 < length ds → (48 ≤ get_or ds 0 0)
    × (get_or ds 0 0 ≤ 57)
head_digit [] h some = absurd (omega arith)
head_digit (d ∷ ds) h some = digit_range d (both (is_digit d) (list_all is_digit ds) h).0

-- the signed view of a word below 2 ^ 31 is that word
pub low_text : (c : ℕ) → c < 2 ^ 31 → const_text c ≡ decimal c
low_text c h = let same : cast_signed w32 c ≡ pos c = omega (arith, ints) in ap signed_decimal same

-- that of any other has a sign
pub high_text : (c : ℕ) → 2 ^ 31 ≤ c → c < 2 ^ 32 → const_text c ≡ 45 ∷ decimal (2 ^ 32 - c)
high_text c high h =
    let e : nat_lt c (2 ^ 31) ≡ false = not_below c (2 ^ 31) (λ low. omega (arith, low, high)) in
    let size : suc (2 ^ 32 - suc c) ≡ 2 ^ 32 - c = omega arith in
    rw e (ap (λ (n : ℕ). 45 ∷ decimal n) size)

first_of_const : (w : List ℕ) → 48 ≤ get_or w 0 0 → const_in w ≡ (number_in w >>= positive_in)
unfolding const_in
first_of_const [] h = absurd (omega arith)
first_of_const (b ∷ ds) h = let e : (b == 45) ≡ false = no_sign b h in rw e refl
  where
    no_sign : (b : ℕ) → 48 ≤ b → (b == 45) ≡ false
    no_sign b h = grind (arith, nat_tests)

is_above : (n k : ℕ) → nat_lt n k ≡ false → k ≤ n
is_above n k h = grind (arith, nat_tests)

half : (c : ℕ) (b : Bool) → nat_lt c (2 ^ 31) ≡ b → (c < 2 ^ 31) ⊎ (2 ^ 31 ≤ c)
half c true e = inl (is_below c (2 ^ 31) e)
half c false e = inr (is_above c (2 ^ 31) e)

-- a word has no sign, or it has one
pub halves : (c : ℕ) → (c < 2 ^ 31) ⊎ (2 ^ 31 ≤ c)
halves c = half c (nat_lt c (2 ^ 31)) refl

negative_size : (c : ℕ) → 2 ^ 31 ≤ c → c < 2 ^ 32 → negative_in (2 ^ 32 - c) ≡ Some c
negative_size c high h =
    let some : nat_lt 0 (2 ^ 32 - c) ≡ true = below 0 (2 ^ 32 - c) (omega arith) in
    let few : nat_le (2 ^ 32 - c) (2 ^ 31) ≡ true = at_most (2 ^ 32 - c) (2 ^ 31) (omega arith) in
    let back : 2 ^ 32 - (2 ^ 32 - c) ≡ c = omega arith in
    rw (some, few) (ap (λ (n : ℕ). Some n) back)
  where
    at_most : (n k : ℕ) → n ≤ k → nat_le n k ≡ true
    at_most n k h = grind (arith, nat_tests)

-- the text of a constant is read as it
pub const_again : (c : ℕ) → c < 2 ^ 32 → const_in (const_text c) ≡ Some c
unfolding const_in
const_again c h = elim (halves c) [ inl low ↦ low_again c h low | inr high ↦ high_again c h high ]
  where
    low_again : (c : ℕ) → c < 2 ^ 32 → c < 2 ^ 31 → const_in (const_text c) ≡ Some c
    low_again c h low =
        let first = head_digit (decimal c) (decimal_digits c h) (decimal_some c h) in
        ap const_in (low_text c low) ∙ first_of_const (decimal c) first.0 ∙ ap (λ (r : Option ℕ). r >>= positive_in)
        (number_again c h) ∙ rw (below c (2 ^ 31) low) refl

    high_again : (c : ℕ) → c < 2 ^ 32 → 2 ^ 31 ≤ c → const_in (const_text c) ≡ Some c
    high_again c h high =
        ap const_in (high_text c high h) ∙ ap (λ (r : Option ℕ). r >>= negative_in)
        (number_again (2 ^ 32 - c) (omega arith)) ∙ negative_size c high h

positive_found : (m c : ℕ) → positive_in m ≡ Some c → (m < 2 ^ 31) × (m ≡ c)
positive_found m c e = elim (chosen (nat_lt m (2 ^ 31)) (Some m) None (Some c) e) [
  | inl h ↦ (is_below m (2 ^ 31) h.0, cc)
  | inr h ↦ cc
]

negative_found : (m c : ℕ) → m < 2 ^ 32 → negative_in m ≡ Some c → (2 ^ 31 ≤ c) × (c < 2 ^ 32) × (m ≡ 2 ^ 32 - c)
negative_found m c size e = elim (chosen (nat_lt 0 m && nat_le m (2 ^ 31)) (Some (2 ^ 32 - m)) None (Some c) e) [
  | inl h ↦
      let parts = both (nat_lt 0 m) (nat_le m (2 ^ 31)) h.0 in
      let some : 0 < m = is_below 0 m parts.0 in
      let few : m ≤ 2 ^ 31 = is_at_most m (2 ^ 31) parts.1 in
      let same : 2 ^ 32 - m ≡ c = cc in
      (omega (arith, some, few, same), omega (arith, some, few, same), omega (arith, some, few, same))
  | inr h ↦ cc
]
  where
    is_at_most : (n k : ℕ) → nat_le n k ≡ true → n ≤ k
    is_at_most n k h = grind (arith, nat_tests)

-- what is read as a constant is its text
pub const_found : (w : List ℕ) (c : ℕ) → const_in w ≡ Some c → (c < 2 ^ 32) × (w ≡ const_text c)
unfolding const_in
const_found [] c e = cc
const_found (b ∷ ds) c e = elim (chosen (b == 45) (number_in ds >>= negative_in) (number_in (b ∷ ds) >>= positive_in)
    (Some c) e) [
      | inl h ↦
          let read = bound negative_in (number_in ds) c h.1 in
          let number = number_found ds read.0 read.1 in
          let facts = negative_found read.0 c number.0 read.2 in (
            facts.1,
            ap (λ (x : ℕ). x ∷ ds) (same_byte b 45 h.0) ∙ ap (λ (r : List ℕ). 45 ∷ r)
                (number.1 ∙ ap decimal facts.2) ∙ sym (high_text c facts.0 facts.1),
          )
      | inr h ↦
          let read = bound positive_in (number_in (b ∷ ds)) c h.1 in
          let number = number_found (b ∷ ds) read.0 read.1 in
          let facts = positive_found read.0 c read.2 in
          let low : c < 2 ^ 31 = subst (λ (k : ℕ). k < 2 ^ 31) facts.1 facts.0 in
          (omega (arith, low), number.1 ∙ ap decimal facts.1 ∙ sym (low_text c low))
    ]
  where
    same_byte : (a b : ℕ) → (a == b) ≡ true → a ≡ b
    same_byte a b h = grind (arith, nat_tests)
