-- A letter and a number in decimal are a name, and different numbers give different names.
use Rattle.std.proofs.Common.{◌≡◌, ◌≢◌, ℕ, ◌<◌, ◌≤◌, ◌^◌, List, [], ◌∷◌, Bool, true, false, refl, length, arith}
use Rattle.std.specs.Prelude.{◌&&◌, nat_eq, nat_le}
use Rattle.std.specs.Char.{is_ascii_digit}
use Rattle.std.specs.Cmp.Lexicographic.{pointwise}
use Rattle.std.specs.Fmt.{decimal}
use Rattle.std.specs.List.{list_all}
use Rattle.std.proofs.lemmas.Bool.Decides.{nat_tests}
use Rattle.std.proofs.lemmas.Cmp.{nat_list_eq_equiv}
use Rattle.std.proofs.lemmas.Fmt.{digits_decimal, length-decimal-le, decimal_injective}
use Rattle.po_name.specs.Names.{is_name, is_name_byte, begins_name}
use Rattle.po_lines.proofs.NumberLaws.{own}
use Rattle.po_ir.proofs.StepLaws.{same_is}

both : (a b : Bool) → (a && b) ≡ true → (a ≡ true) × (b ≡ true)
both true b h = (refl, h)
both false b h = cc

digit_named : (b : ℕ) → is_ascii_digit b ≡ true → is_name_byte b ≡ true
digit_named b h = grind (arith, nat_tests)

all_named : (bs : List ℕ) → list_all is_ascii_digit bs ≡ true → list_all is_name_byte bs ≡ true
all_named [] h = refl
all_named (b ∷ bs) h =
    let e = both (is_ascii_digit b) (list_all is_ascii_digit bs) h in
    rw (digit_named b e.0, all_named bs e.1) refl

short : (n : ℕ) → n < 2 ^ 64 → length (decimal n) ≤ 20
short n h = length-decimal-le 20 n (omega arith) (omega arith) h

fits : (b : ℕ) (bs : List ℕ) → length bs ≤ 20 → nat_le (length (b ∷ bs)) 64 ≡ true
fits b bs h = grind (arith, nat_tests)

pub numbered_name : (letter n : ℕ) → n < 2 ^ 64 → is_name_byte letter ≡ true → begins_name (letter ∷ []) ≡ true
    → is_name (letter ∷ decimal n) ≡ true
numbered_name letter n h l b =
    rw (fits letter (decimal n) (short n h), b, l, all_named (decimal n) (digits_decimal own n h)) refl

not_true : (b : Bool) → (b ≡ true → ⊥) → b ≡ false
not_true true h = absurd (h refl)
not_true false h = refl

behind : (b : ℕ) (xs ys : List ℕ) → b ∷ xs ≡ b ∷ ys → xs ≡ ys
behind b xs ys e = cc

pub numbered_other : (letter m n : ℕ) → m < 2 ^ 64 → n < 2 ^ 64 → m ≢ n
    → pointwise nat_eq (letter ∷ decimal m) (letter ∷ decimal n) ≡ false
numbered_other letter m n f g differ =
    let xs = letter ∷ decimal m in
    let ys = letter ∷ decimal n in
    not_true (pointwise nat_eq xs ys) (λ e. differ (decimal_injective m n f g
    (behind letter (decimal m) (decimal n) (same_is xs ys e))))

pub same_self : (x : List ℕ) → pointwise nat_eq x x ≡ true
same_self x = nat_list_eq_equiv.refl x
