-- No printed part of an entry has a control character.
use Rattle.std.proofs.Common.{◌≡◌, ℕ, ◌<◌, ◌≤◌, ◌^◌, Bool, true, false, nat_le, List, [], ◌∷◌, ◌++◌, All, codes}
use Rattle.std.proofs.Common.{refl, arith, suc, ℤ, pos, negsuc}
use Rattle.std.specs.List.{AllByRecursion, list_all}
use Rattle.std.specs.Fmt.{decimal, signed_decimal}
use Rattle.std.proofs.lemmas.Bool.{and_parts}
use Rattle.std.proofs.lemmas.Bool.Decides.{nat_tests}
use Rattle.std.proofs.lemmas.List.Elements.{All-head, All-tail}
use Rattle.po_word.specs.declared.operator.Un.{Un}
use Rattle.po_word.specs.declared.operator.Un.TheVariants.{Neg, Not}
use Rattle.po_word.specs.declared.operator.Bin.{Bin}
use Rattle.po_word.specs.declared.operator.Bin.TheVariants.{Add, Sub, Mul, And, Or, Xor, Shl, Sar, Shr}
use Rattle.po_word.specs.declared.operator.Rel.{Rel}
use Rattle.po_word.specs.declared.operator.Rel.TheVariants.{Eq, Ne, Lt, Le, Gt, Ge, Ltu, Geu}
use Rattle.po_name.specs.Names.{is_digit}
use Rattle.po_term.specs.declared.term.Reg.TheVariants.{Virt, Fp, Rv, Arg}
use Rattle.po_termtext.specs.TermText.{un_text, bin_text, rel_text}
use Rattle.po_termtext.proofs.Numbers.{decimal_digits}
use Rattle.po_model.specs.declared.machine.PatReg.{PatReg}
use Rattle.po_model.specs.declared.machine.PatReg.TheVariants.{Any, Fixed}
use Rattle.po_model.specs.declared.machine.Piece.{Piece}
use Rattle.po_model.specs.declared.machine.Piece.TheVariants as piece
use Rattle.po_model.specs.Entries.{OfReg, OfNum, OfSym, OfLabel, Place, IsPatReg}
use Rattle.po_model.specs.Entries.{IsPieceOf}
use Rattle.po_entry.specs.EntryText.{operand_text, pat_reg_text}
use Rattle.po_entry.specs.EntryText.{is_mark, byte_text, piece_text}
use Rattle.po_entry.specs.EntryText.{template_text}
use Rattle.po_entry.proofs.AgainParts.{IsSigned, small_pos, small_neg}
use Rattle.po_entry.proofs.AgainFits.{AreSmall}
use Rattle.po_entry.proofs.AgainTemplate.{small_among}

-- each byte is a blank or no control character
abbrev pub plain : List ℕ → Bool
plain bs = list_all (λ b. nat_le 32 b) bs

pub more : (xs ys : List ℕ) → plain xs ≡ true → plain ys ≡ true → plain (xs ++ ys) ≡ true
more [] ys h g = g
more (x ∷ xs) ys h g =
    let p = and_parts (nat_le 32 x) (plain xs) h in
    let rest = more xs ys p.1 g in
    rw (p.0, rest) refl

digit_plain : (d : ℕ) → is_digit d ≡ true → nat_le 32 d ≡ true
digit_plain d h = grind (arith, nat_tests)

digits_plain : (ds : List ℕ) → list_all is_digit ds ≡ true → plain ds ≡ true
digits_plain [] h = refl
digits_plain (d ∷ ds) h =
    let p = and_parts (is_digit d) (list_all is_digit ds) h in
    let first = digit_plain d p.0 in
    let rest = digits_plain ds p.1 in
    rw (first, rest) refl

decimal_plain : (n : ℕ) → n < 2 ^ 32 → plain (decimal n) ≡ true
decimal_plain n h = digits_plain (decimal n) (decimal_digits n h)

pub operand_plain : (mark : List ℕ) (k : ℕ) → plain mark ≡ true → k < 10 → plain (operand_text mark k) ≡ true
operand_plain mark k h few = more mark (decimal k) h (decimal_plain k (omega (arith, few)))

pub signed_plain : (z : ℤ) → IsSigned z → plain (signed_decimal z) ≡ true
signed_plain (pos n) h = decimal_plain n (small_pos n h.high)
signed_plain (negsuc n) h = decimal_plain (suc n) (small_neg n h.low)

pub reg_plain : (r : PatReg) → IsPatReg r → plain (pat_reg_text r) ≡ true
reg_plain (Any k) h = operand_plain (codes "%") k refl h
reg_plain (Fixed (Virt n)) h = absurd h
reg_plain (Fixed Fp) h = refl
reg_plain (Fixed Rv) h = refl
reg_plain (Fixed (Arg n)) h = more (codes "arg") (decimal n) refl (decimal_plain n (omega (arith, h)))

pub bin_plain : (o : Bin) → plain (bin_text o) ≡ true
bin_plain Add = refl
bin_plain Sub = refl
bin_plain Mul = refl
bin_plain And = refl
bin_plain Or = refl
bin_plain Xor = refl
bin_plain Shl = refl
bin_plain Sar = refl
bin_plain Shr = refl

pub un_plain : (o : Un) → plain (un_text o) ≡ true
un_plain Neg = refl
un_plain Not = refl

pub rel_plain : (r : Rel) → plain (rel_text r) ≡ true
rel_plain Eq = refl
rel_plain Ne = refl
rel_plain Lt = refl
rel_plain Le = refl
rel_plain Gt = refl
rel_plain Ge = refl
rel_plain Ltu = refl
rel_plain Geu = refl

byte_plain : (b : ℕ) → 32 ≤ b → plain (byte_text b) ≡ true
byte_plain b h = by_mark (is_mark b) refl
  where
    high : nat_le 32 b ≡ true
    high = grind (arith, nat_tests)

    by_mark : (x : Bool) → is_mark b ≡ x → plain (byte_text b) ≡ true
    by_mark true e = let yes = high in rw e (rw yes refl)
    by_mark false e = let yes = high in rw e (rw yes refl)

piece_plain : (ps : List Place) (p : Piece) → AreSmall ps → IsPieceOf ps p → plain (piece_text p) ≡ true
piece_plain ps (piece.Byte b) small h = byte_plain b h.0
piece_plain ps (piece.Reg k) small h = operand_plain (codes "%") k refl (small_among ps k OfReg small h)
piece_plain ps (piece.Num k) small h = operand_plain (codes "#") k refl (small_among ps k OfNum small h)
piece_plain ps (piece.Label k) small h = operand_plain (codes "@") k refl (small_among ps k OfLabel small h)
piece_plain ps (piece.Sym k) small h = operand_plain (codes "&") k refl (small_among ps k OfSym small h)

pub template_plain : (ps : List Place) (xs : List Piece) → AreSmall ps → All (IsPieceOf ps) xs
    → plain (template_text xs) ≡ true
template_plain ps [] small h = refl
template_plain ps (x ∷ xs) small h = more (piece_text x) (template_text xs)
    (piece_plain ps x small (All-head (IsPieceOf ps) x xs h))
    (template_plain ps xs small (All-tail (IsPieceOf ps) x xs h))

pub each_high : (bs : List ℕ) → plain bs ≡ true → AllByRecursion (λ b. 32 ≤ b) bs
each_high [] h = tt
each_high (b ∷ bs) h = let p = and_parts (nat_le 32 b) (plain bs) h in (high b p.0, each_high bs p.1)
  where
    high : (b : ℕ) → nat_le 32 b ≡ true → 32 ≤ b
    high b e = grind (arith, nat_tests)
