-- The words that the operators give are words; sums in another order are one word.
use Rattle.std.proofs.Common.{◌≡◌, ℕ, ◌+◌, ◌-◌, ◌*◌, ◌%◌, ◌^◌, ◌<◌, ◌≤◌, bit_or, arith}
use Rattle.po_word.specs.Exprs.{log2}
use Rattle.std.proofs.lemmas.Int.{of_z-to_z}
use Rattle.std.specs.Int.{w32}
use Rattle.std.specs.Int.{is_power_of_two, bit_at}
use Rattle.std.proofs.Common.{max, sym, ◌∙◌, ap, mod-eq_of_lt, pow-suc, zero, suc}
use Rattle.std.proofs.lemmas.Bool.{eqb-true}
use Rattle.std.specs.Prelude.{count_ones}
use Rattle.std.specs.Int.Count.{leading_top, count_leading_zeros, ones-ones, ones_cat}
use Rattle.std.proofs.lemmas.Nat.{zero_from_ones}
use Rattle.std.proofs.lemmas.Nat.Bits.{same_from_bits, bit_at_or}
use Rattle.std.proofs.lemmas.Nat.{mul-mod_first, mul-mod_second}
use native.Mathlib.Nat.{mul_assoc}
use Rattle.std.proofs.lemmas.Nat.{mod_below, or_lt, xor_lt, shr_le}
use Rattle.std.specs.Int.Bits.{and_lt}
use Rattle.std.specs.Int.{int_shr}
use Rattle.std.specs.Prelude.{ℤ, pos, negsuc, Bool, true, false}
use mir.Val.{sel}
use Rattle.std.proofs.Common.{ltb}
use Rattle.po_word.specs.declared.operator.Un.{Un}
use Rattle.po_word.specs.declared.operator.Un.TheVariants.{Neg, Not}
use Rattle.po_word.specs.declared.operator.Bin.{Bin}
use Rattle.po_word.specs.declared.operator.Bin.TheVariants.{Add, Sub, Mul, And, Or, Xor, Shl, Sar, Shr}
use Rattle.po_word.specs.Words.{un_value, bin_value, signed, word_of}

pub un_fits : (o : Un) (a : ℕ) → un_value o a < 2 ^ 32
un_fits Neg a = omega arith
un_fits Not a = omega arith

-- where it is not negative, it is a word
abbrev IsSmall : ℤ → Type 0
IsSmall (pos a) = a < 2 ^ 32
IsSmall (negsuc a) = Unit {0}

is_small : (a : ℕ) → a < 2 ^ 32 → IsSmall (signed a)
is_small a h = go (ltb a (2 ^ 31))
  where
    go : (b : Bool) → IsSmall (sel b (pos a) (negsuc (2 ^ 32 - suc a)))
    go true = h
    go false = tt

shifted_fits : (z : ℤ) (k : ℕ) → IsSmall z → word_of (int_shr z k) < 2 ^ 32
shifted_fits (pos a) k h = omega (arith, shr_le a k)
shifted_fits (negsuc a) k h = omega arith

pub bin_fits : (o : Bin) (a b : ℕ) → a < 2 ^ 32 → b < 2 ^ 32 → bin_value o a b < 2 ^ 32
bin_fits Add a b h i = omega arith
bin_fits Sub a b h i = omega arith
bin_fits Mul a b h i = mod_below (a * b) (2 ^ 32) (omega arith)
bin_fits And a b h i = and_lt 32 a b h i
bin_fits Or a b h i = or_lt 32 a b h i
bin_fits Xor a b h i = xor_lt 32 a b h i
bin_fits Shl a b h i = mod_below (a * 2 ^ (b % 32)) (2 ^ 32) (omega arith)
bin_fits Sar a b h i = shifted_fits (signed a) (b % 32) (is_small a h)
bin_fits Shr a b h i = omega (arith, shr_le a (b % 32))

pub add_zero : (x : ℕ) → x < 2 ^ 32 → x ≡ bin_value Add x 0
add_zero x h = omega arith

pub add_comm : (x y : ℕ) → (x + y) % 2 ^ 32 ≡ (y + x) % 2 ^ 32
add_comm x y = omega arith

pub add_twice : (x d c : ℕ) → (x + (d + c) % 2 ^ 32) % 2 ^ 32 ≡ ((x + d) % 2 ^ 32 + c) % 2 ^ 32
add_twice x d c = omega arith

pub neg_twice : (x : ℕ) → x < 2 ^ 32 → x ≡ (2 ^ 32 - (2 ^ 32 - x) % 2 ^ 32) % 2 ^ 32
neg_twice x h = omega arith

pub not_twice : (x : ℕ) → x < 2 ^ 32 → x ≡ 2 ^ 32 - 1 - (2 ^ 32 - 1 - x)
not_twice x h = omega arith

pub add_neg : (x c : ℕ) → (x + (2 ^ 32 - c) % 2 ^ 32) % 2 ^ 32 ≡ (x + (2 ^ 32 - c)) % 2 ^ 32
add_neg x c = omega arith

pub sub_same : (x : ℕ) → x < 2 ^ 32 → 0 ≡ (x + (2 ^ 32 - x)) % 2 ^ 32
sub_same x h = omega arith

pub add_across : (x y c d : ℕ) → ((x + y) % 2 ^ 32 + (c + d) % 2 ^ 32) % 2 ^ 32
    ≡ ((x + c) % 2 ^ 32 + (y + d) % 2 ^ 32) % 2 ^ 32
add_across x y c d = omega arith

pub add_left : (x y c : ℕ) → ((x + y) % 2 ^ 32 + c) % 2 ^ 32 ≡ ((x + c) % 2 ^ 32 + y) % 2 ^ 32
add_left x y c = omega arith

pub add_right : (x y c : ℕ) → ((x + y) % 2 ^ 32 + c) % 2 ^ 32 ≡ (x + (y + c) % 2 ^ 32) % 2 ^ 32
add_right x y c = omega arith

pub mul_twice : (x d c : ℕ) → (x * (d * c % 2 ^ 32)) % 2 ^ 32 ≡ ((x * d) % 2 ^ 32 * c) % 2 ^ 32
mul_twice x d c = mul-mod_second x (d * c) (2 ^ 32) ∙ ap (λ n. n % 2 ^ 32) (sym (mul_assoc x d c))
    ∙ sym (mul-mod_first (x * d) c (2 ^ 32))

one_bit_at : (c j z : ℕ) → count_ones c ≡ 1 → z + suc j ≡ 32 → 2 ^ j ≤ c → c < 2 ^ suc j → (2 ^ (31 - z) ≡ c)
    × (31 - z < 32)
one_bit_at c j z n sums low high =
    let r : ℕ = c - 2 ^ j in
    let twice : 2 ^ suc j ≡ 2 ^ j * 2 = pow-suc 2 j in
    let split : 1 * 2 ^ j + r ≡ c = omega arith in
    let small : r < 2 ^ j = omega arith in
    let cat : count_ones (1 * 2 ^ j + r) ≡ count_ones 1 + count_ones r = ones_cat j 1 r small in
    let one : count_ones 1 ≡ 1 = ones-ones 1 in
    let none : count_ones r ≡ 0 = omega (arith, ap count_ones split) in
    let empty : r ≡ 0 = zero_from_ones r none in
    let place : 31 - z ≡ j = omega arith in
    (rw place (omega arith), omega arith)

positive : (c : ℕ) → count_ones c ≡ 1 → 0 < c
positive zero n = let e : count_ones 0 ≡ 0 = ones-ones 0 in absurd (omega arith)
positive (suc c) n = omega arith

-- a number with one bit is two to the place of that bit
pub one_bit : (c : ℕ) → c < 2 ^ 32 → is_power_of_two c ≡ true → (2 ^ log2 c ≡ c) × (log2 c < 32)
one_bit c h e =
    let n : count_ones c ≡ 1 = eqb-true (count_ones c) 1 e in
    let t = leading_top 32 c (positive c n) h in
    one_bit_at c t.0 (count_leading_zeros 32 c) n t.1 t.2 t.3

-- a shift by the place of the one bit is the product
pub shift_by_bit : (x c : ℕ) → c < 2 ^ 32 → is_power_of_two c ≡ true → (x * 2 ^ (log2 c % 32)) % 2 ^ 32 ≡ (x * c) % 2
    ^ 32
shift_by_bit x c h e =
    let t = one_bit c h e in
    let m : log2 c % 32 ≡ log2 c = mod-eq_of_lt t.1 in
    rw (m, t.0)

pub or_assoc : (a b c : ℕ) → bit_or (bit_or a b) c ≡ bit_or a (bit_or b c)
or_assoc a b c = same_from_bits (bit_or (bit_or a b) c) (bit_or a (bit_or b c))
    (λ i. simp bit_at_or (max_assoc (bit_at a i) (bit_at b i) (bit_at c i)))
  where
    max_assoc : (x y z : ℕ) → max (max x y) z ≡ max x (max y z)
    max_assoc x y z = omega arith

pub shl_zero : (x : ℕ) → x < 2 ^ 32 → x ≡ bin_value Shl x 0
shl_zero x h = omega arith

pub shr_zero : (x : ℕ) → x < 2 ^ 32 → x ≡ bin_value Shr x 0
shr_zero x h = omega arith

pub sar_zero : (x : ℕ) → x < 2 ^ 32 → x ≡ bin_value Sar x 0
sar_zero x h = sym (ap word_of (unshifted (signed x)) ∙ of_z-to_z w32 x h)
  where
    unshifted : (z : ℤ) → int_shr z (0 % 32) ≡ z
    unshifted (pos a) = ap pos (omega arith)
    unshifted (negsuc a) = ap negsuc (omega arith)
