-- A printed number is read as itself, and what is read as a number is one.
use Rattle.std.proofs.Common.{◌≡◌, ℕ, suc, ◌≤◌, ◌<◌, ◌^◌, List, [], ◌∷◌, Bool, true, false, Ok, Option, Some, None}
use Rattle.std.proofs.Common.{refl, ap, ◌∙◌, subst, length, arith, rules, inl, inr}
use Rattle.std.specs.Prelude.{ℤ, pos, negsuc, neg_ℤ, ◌≤ℤ◌, int_le, nat_le, ◌==◌, ◌&&◌}
use Rattle.std.specs.Int.{w32}
use Rattle.std.specs.Char.{is_ascii_digit}
use Rattle.std.specs.List.{list_all}
use Rattle.std.specs.Option.{option_map}
use Rattle.std.specs.Fmt.{decimal, signed_decimal}
use Rattle.std.proofs.lemmas.Bool.Decides.{nat_tests}
use Rattle.std.proofs.lemmas.Int.{ints, of_z-to_z}
use Rattle.std.proofs.lemmas.Str.Parse.{IsNumeralModel, numerals_by_weight}
use Rattle.std.proofs.lemmas.Fmt.{digits_decimal, digits_value-decimal, length-decimal-le, decimal_is_IsNumeral}
use Rattle.po_word.specs.Words.{signed}
use Rattle.po_text.specs.Number.{digits_value, natural_of, number_of}
use Rattle.po_lines.specs.Words.{Placed}
use Rattle.po_lines.specs.Leaves.{bounded, number_in, word_number_in, signed_number_in, small_number_in}
use Rattle.po_lines.proofs.Results.{chosen, ok_is, not_ok}

pub own : IsNumeralModel (λ ds. list_all is_ascii_digit ds ≡ true) digits_value
own = numerals_by_weight _ (search rules) digits_value (search rules)

wide : (n : ℕ) → n ≤ 4294967296 → n < 2 ^ 64
wide n h = omega arith

at_most : (a b : ℕ) → a ≤ b → nat_le a b ≡ true
at_most a b h = grind (arith, nat_tests)

digits_are : (n : ℕ) → n ≤ 4294967296 → list_all is_ascii_digit (decimal n) ≡ true
digits_are n h = digits_decimal own n (wide n h)

some_digit : (n : ℕ) → n ≤ 4294967296 → 0 < length (decimal n)
some_digit n h = (decimal_is_IsNumeral n (wide n h)).0.0

few_digits : (n : ℕ) → n ≤ 4294967296 → length (decimal n) ≤ 10
few_digits n h = length-decimal-le 10 n (omega arith) (omega arith) (wide n h)

pub natural_again : (n : ℕ) → n ≤ 4294967296 → natural_of (decimal n) ≡ Some n
natural_again n h =
    rw (
      at_most 1 (length (decimal n)) (some_digit n h),
      at_most (length (decimal n)) 10 (few_digits n h),
      digits_are n h,
    ) (ap Some (digits_value-decimal own n (wide n h)))

both : (a b : Bool) → (a && b) ≡ true → (a ≡ true) × (b ≡ true)
both true b h = (refl, h)
both false b h = cc

no_minus : (d : ℕ) → is_ascii_digit d ≡ true → (d == 45) ≡ false
no_minus d h = grind (arith, nat_tests)

unsigned_again : (ds : List ℕ) (n : ℕ) → 0 < length ds → list_all is_ascii_digit ds ≡ true → natural_of ds ≡ Some n
    → number_of ds ≡ Some (pos n)
unsigned_again [] n some h e = absurd (omega (arith, some))
unsigned_again (d ∷ ds) n some h e =
    rw (no_minus d (both (is_ascii_digit d) (list_all is_ascii_digit ds) h).0) (ap (option_map pos) e)

below : (n : ℕ) → pos n ≤ℤ pos 4294967295 → n ≤ 4294967296
below n h = omega (arith, ints)

above : (n : ℕ) → negsuc 4294967295 ≤ℤ negsuc n → suc n ≤ 4294967296
above n h = omega (arith, ints)

-- a printed number, from -4294967296 to 4294967295
pub printed_again : (z : ℤ) → negsuc 4294967295 ≤ℤ z → z ≤ℤ pos 4294967295 → number_of (signed_decimal z) ≡ Some z
printed_again (pos n) low high =
    unsigned_again (decimal n) n (some_digit n (below n high)) (digits_are n (below n high))
    (natural_again n (below n high))
printed_again (negsuc n) low high = ap (option_map (λ (m : ℕ). neg_ℤ (pos m))) (natural_again (suc n) (above n low))

le_true : (a b : ℤ) → a ≤ℤ b → int_le a b ≡ true
le_true a b h = grind (arith, ints)

le_from : (a b : ℤ) → int_le a b ≡ true → a ≤ℤ b
le_from a b h = grind (arith, ints)

pub number_again : (low high z : ℤ) (w : Placed) → negsuc 4294967295 ≤ℤ z → z ≤ℤ pos 4294967295 → low ≤ℤ z → z ≤ℤ high
    → w.bytes ≡ signed_decimal z → number_in low high w ≡ Ok z
unfolding number_in
number_again low high z w down up under over e =
    let told : number_of w.bytes ≡ Some z = ap number_of e ∙ printed_again z down up in
    rw (told, le_true low z under, le_true z high over) refl

-- a word by its signed view
pub word_number_again : (n : ℕ) (w : Placed) → n < 2 ^ 32 → w.bytes ≡ signed_decimal (signed n)
    → word_number_in w ≡ Ok n
unfolding word_number_in
word_number_again n w h e =
    rw (number_again (negsuc 2147483647) (pos 4294967295) (signed n) w (omega (arith, ints)) (omega (arith, ints))
    (omega (arith, ints)) (omega (arith, ints)) e) (ap Ok (of_z-to_z w32 n h))

pub signed_number_again : (z : ℤ) (w : Placed) → negsuc 2147483647 ≤ℤ z → z ≤ℤ pos 2147483647
    → w.bytes ≡ signed_decimal z → signed_number_in w ≡ Ok z
unfolding signed_number_in
signed_number_again z w low high e =
    number_again (negsuc 2147483647) (pos 2147483647) z w (omega (arith, ints)) (omega (arith, ints)) low high e

pub small_number_again : (most n : ℕ) (w : Placed) → n ≤ most → most < 2 ^ 32 → w.bytes ≡ decimal n
    → small_number_in most w ≡ Ok n
unfolding small_number_in
small_number_again most n w h small e =
    rw (number_again (pos 0) (pos most) (pos n) w (omega (arith, ints)) (omega (arith, ints)) (omega (arith, ints))
    (omega (arith, ints)) e) refl

-- what is read as a number is one, within the bounds
pub record IsNumberWithin (low high z : ℤ) (bytes : List ℕ) : Type 0 where
  pub number : number_of bytes ≡ Some z
  pub under : low ≤ℤ z
  pub over : z ≤ℤ high

bounded_found : (low high z : ℤ) (column : ℕ) (bytes : List ℕ) (found : Option ℤ) → number_of bytes ≡ found
    → bounded low high column found ≡ Ok z → IsNumberWithin low high z bytes
bounded_found low high z column bytes None e h = absurd (not_ok h)
bounded_found low high z column bytes (Some n) e h = elim (chosen (int_le low n && int_le n high) _ _ (Ok z) h) [
  | inl p ↦ let parts = both (int_le low n) (int_le n high) p.0 in let same : n ≡ z = ok_is p.1 in
      subst (λ (m : ℤ). IsNumberWithin low high m bytes) same
      (record { number = e; under = le_from low n parts.0; over = le_from n high parts.1 })
  | inr p ↦ absurd (not_ok p.1)
]

pub number_found : (low high z : ℤ) (w : Placed) → number_in low high w ≡ Ok z → IsNumberWithin low high z w.bytes
unfolding number_in
number_found low high z w h = bounded_found low high z w.column w.bytes (number_of w.bytes) refl h
