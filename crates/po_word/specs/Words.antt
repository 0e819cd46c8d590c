-- Words, and what the operators and relations give of them.
-- A word is a whole number below 2 ^ 32. Whole numbers do not wrap, so each rule below says itself what it takes
-- modulo 2 ^ 32.
use Rattle.std.specs.Prelude.{ℕ, ◌+◌, ◌-◌, ◌*◌, ◌/◌, ◌%◌, ◌^◌, ◌==◌, bit_and, bit_or, bit_xor, nat_lt, nat_le, Bool}
use Rattle.std.specs.Prelude.{not, ℤ, pos, negsuc, int_lt}
use Rattle.std.specs.Int.{w32, cast_signed, cast_unsigned}
use Rattle.po_word.specs.declared.operator.Un.{Un}
use Rattle.po_word.specs.declared.operator.Un.TheVariants.{Neg, Not}
use Rattle.po_word.specs.declared.operator.Bin.{Bin}
use Rattle.po_word.specs.declared.operator.Bin.TheVariants.{Add, Sub, Mul, And, Or, Xor, Shl, Sar, Shr}
use Rattle.po_word.specs.declared.operator.Rel.{Rel}
use Rattle.po_word.specs.declared.operator.Rel.TheVariants.{Eq, Ne, Lt, Le, Gt, Ge, Ltu, Geu}

-- the signed view of a word, in two's complement: a itself below 2 ^ 31, and a - 2 ^ 32 from there on
abbrev pub signed : ℕ → ℤ
signed a = cast_signed w32 a

-- the word whose signed view z is: z itself from 0 on, and 2 ^ 32 + z below; for z from - 2 ^ 31 to 2 ^ 31 - 1
abbrev pub word_of : ℤ → ℕ
word_of z = cast_unsigned w32 z

-- the greatest whole number that is not above z / m, for m from 1 on; negsuc a is the number - (a + 1)
abbrev pub floor_over : ℤ → ℕ → ℤ
floor_over (pos a) m = pos (a / m)
floor_over (negsuc a) m = negsuc (a / m)

-- neg: what gives 0 modulo 2 ^ 32 when it is added; not: each of the 32 bits turned
abbrev pub un_value : Un → ℕ → ℕ
un_value Neg a = (2 ^ 32 - a) % 2 ^ 32
un_value Not a = 2 ^ 32 - 1 - a

-- sums, differences and products are taken modulo 2 ^ 32, and shift counts modulo 32
abbrev pub bin_value : Bin → ℕ → ℕ → ℕ
bin_value Add a b = (a + b) % 2 ^ 32
-- a - b; 2 ^ 32 is added first, since whole numbers stop at 0
bin_value Sub a b = (a + (2 ^ 32 - b)) % 2 ^ 32
bin_value Mul a b = (a * b) % 2 ^ 32
-- and, or, exclusive or of the two numbers' bits
bin_value And a b = bit_and a b
bin_value Or a b = bit_or a b
bin_value Xor a b = bit_xor a b
-- times a power of two
bin_value Shl a b = (a * 2 ^ (b % 32)) % 2 ^ 32
-- the floor of the signed view over a power of two
bin_value Sar a b = word_of (floor_over (signed a) (2 ^ (b % 32)))
-- the floor of the word over a power of two
bin_value Shr a b = a / 2 ^ (b % 32)

-- lt, le, gt and ge compare the signed views; ltu and geu the words as they are
abbrev pub rel_value : Rel → ℕ → ℕ → Bool
rel_value Eq a b = a == b
rel_value Ne a b = not (a == b)
rel_value Lt a b = int_lt (signed a) (signed b)
rel_value Le a b = not (int_lt (signed b) (signed a))
rel_value Gt a b = int_lt (signed b) (signed a)
rel_value Ge a b = not (int_lt (signed a) (signed b))
rel_value Ltu a b = nat_lt a b
rel_value Geu a b = nat_le b a
