-- Whether two operators, or two relations, are one.
use Rattle.std.specs.Prelude.{ℕ, Bool, ◌==◌}
use Rattle.po_word.specs.declared.operator.Un.{Un}
use Rattle.po_word.specs.declared.operator.Un.TheVariants.{Neg, Not}
use Rattle.po_word.specs.declared.operator.Bin.{Bin}
use Rattle.po_word.specs.declared.operator.Bin.TheVariants.{Add, Sub, Mul, And, Or, Xor, Shl, Sar, Shr}
use Rattle.po_word.specs.declared.operator.Rel.{Rel}
use Rattle.po_word.specs.declared.operator.Rel.TheVariants.{Eq, Ne, Lt, Le, Gt, Ge, Ltu, Geu}

-- the place of an operator or a relation in its list
abbrev pub un_place : Un → ℕ
un_place Neg = 0
un_place Not = 1

abbrev pub bin_place : Bin → ℕ
bin_place Add = 0
bin_place Sub = 1
bin_place Mul = 2
bin_place And = 3
bin_place Or = 4
bin_place Xor = 5
bin_place Shl = 6
bin_place Sar = 7
bin_place Shr = 8

abbrev pub rel_place : Rel → ℕ
rel_place Eq = 0
rel_place Ne = 1
rel_place Lt = 2
rel_place Le = 3
rel_place Gt = 4
rel_place Ge = 5
rel_place Ltu = 6
rel_place Geu = 7

abbrev pub un_eq : Un → Un → Bool
un_eq o p = un_place o == un_place p

abbrev pub bin_eq : Bin → Bin → Bool
bin_eq o p = bin_place o == bin_place p

abbrev pub rel_eq : Rel → Rel → Bool
rel_eq r s = rel_place r == rel_place s
