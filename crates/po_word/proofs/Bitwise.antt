-- One bit of what an operator gives, from the bits of its operands.
use Rattle.std.proofs.Common.{◌≡◌, ℕ, zero, suc, ◌+◌, ◌-◌, ◌%◌, ◌^◌, ◌<◌, min, max, not, ◌&&◌, ◌||◌, ◌==◌, refl}
use Rattle.std.proofs.Common.{ap, ◌∙◌, w32, le_of_suc-le-suc, not-suc-le-zero}
use Rattle.std.specs.Int.{bit_at}
use Rattle.std.proofs.lemmas.Nat.Bits.{bit_at-lt, bit_at_and, bit_at_or, bit_at_xor, bit_at_not}
use Rattle.po_word.specs.declared.operator.Un.TheVariants.{Not}
use Rattle.po_word.specs.declared.operator.Bin.TheVariants.{And, Or, Xor}
use Rattle.po_word.specs.Words.{un_value, bin_value}
use Rattle.po_word.specs.Bits.{bit, exactly_one}

-- a fact of 0 and of 1 is one of each number below 2
one_digit : (P : ℕ → Type 0) → P 0 → P 1 → (x : ℕ) → x < 2 → P x
one_digit P p q zero h = p
one_digit P p q (suc zero) h = q
one_digit P p q (suc (suc x)) h = absurd (not-suc-le-zero (le_of_suc-le-suc (le_of_suc-le-suc h)))

-- a fact of each two of 0 and 1 is one of the bits of two numbers
two_digits : (P : ℕ → ℕ → Type 0) → P 0 0 → P 0 1 → P 1 0 → P 1 1 → (a b i : ℕ) → P (bit_at a i) (bit_at b i)
two_digits P p q r s a b i =
    let zero_and = one_digit (P 0) p q (bit_at b i) (bit_at-lt b i) in
    let one_and = one_digit (P 1) r s (bit_at b i) (bit_at-lt b i) in
    one_digit (λ x. P x (bit_at b i)) zero_and one_and (bit_at a i) (bit_at-lt a i)

pub and-bit : (a b i : ℕ) → bit (bin_value And a b) i ≡ (bit a i && bit b i)
and-bit a b i = ap (λ x. x == 1) (bit_at_and a b i)
    ∙ two_digits (λ x y. (min x y == 1) ≡ ((x == 1) && (y == 1))) refl refl refl refl a b i

pub or-bit : (a b i : ℕ) → bit (bin_value Or a b) i ≡ (bit a i || bit b i)
or-bit a b i = ap (λ x. x == 1) (bit_at_or a b i)
    ∙ two_digits (λ x y. (max x y == 1) ≡ ((x == 1) || (y == 1))) refl refl refl refl a b i

pub xor-bit : (a b i : ℕ) → bit (bin_value Xor a b) i ≡ exactly_one (bit a i) (bit b i)
xor-bit a b i = ap (λ x. x == 1) (bit_at_xor a b i)
    ∙ two_digits (λ x y. ((x + y) % 2 == 1) ≡ exactly_one (x == 1) (y == 1)) refl refl refl refl a b i

pub not-bit : (a i : ℕ) → a < 2 ^ 32 → i < 32 → bit (un_value Not a) i ≡ not (bit a i)
not-bit a i below within = ap (λ x. x == 1) (bit_at_not w32 a i below within)
    ∙ one_digit (λ x. ((1 - x) == 1) ≡ not (x == 1)) refl refl (bit_at a i) (bit_at-lt a i)
