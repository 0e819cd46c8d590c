-- The parts of a term that have no parts of their own are read as themselves.
use Rattle.std.proofs.Common.{◌⊎◌, ◌≡◌, ℕ, ◌+◌, ◌-◌, ◌<◌, ◌≤◌, ◌^◌, ◌==◌, Bool, true, false}
use Rattle.std.proofs.Common.{List, [], ◌∷◌, ◌++◌, length, take, drop, refl, sym, ap, subst, arith, zero, suc}
use Rattle.std.proofs.Common.{Some, Result, Ok, ℤ, pos, negsuc}
use Rattle.std.specs.Prelude.{◌≤ℤ◌, int_le}
use Rattle.std.specs.List.{list_all, prefix_len}
use Rattle.std.proofs.lemmas.Bool.{and_parts}
use Rattle.std.proofs.lemmas.Bool.Decides.{nat_tests}
use Rattle.std.proofs.lemmas.Int.{ints}
use Rattle.std.proofs.lemmas.Fmt.{decimal_digit}
use Rattle.std.proofs.Math.Seq.{take-append_seam, drop-append_seam}
use Rattle.po_text.specs.Words.{is_blank}
use Rattle.po_name.specs.Names.{is_digit, is_name_byte}
use Rattle.po_lines.specs.declared.fault.LineFault.{LineFault}
use Rattle.po_pattern.specs.declared.operands.Operands.{Operands}
use Rattle.po_pattern.specs.declared.operands.OperandKind.{OperandKind}
use Rattle.po_pattern.specs.declared.operands.OperandKind.TheVariants.{Register, Symbol}
use Rattle.po_pattern.specs.Rests.{Rest, Read, begins, mark}
use Rattle.po_pattern.specs.Seen.{kind_of, with_operand, may_be}
use Rattle.po_pattern.specs.Parts as parts
use Rattle.po_pattern.specs.Parts.{mark_of, digit_behind, operand}
use Rattle.po_word.specs.Words.{signed}
use Rattle.po_term.specs.declared.term.Reg.{Reg}
use Rattle.po_term.specs.declared.term.Reg.TheVariants.{Virt, Fp, Rv, Arg}
use Rattle.po_termtext.specs.TermText.{reg_text}
use Rattle.po_model.specs.declared.machine.PatReg.TheVariants.{Any, Fixed}
use Rattle.po_model.specs.declared.machine.PatTerm.TheVariants as pat
use Rattle.po_model.specs.Entries.{OfReg, OfSym, place}
use Rattle.po_entry.proofs.Noted.{MayStand}
use Rattle.po_term.specs.Form.{IsFixed}

abbrev pub at : ℕ → List ℕ → Rest
at column bytes = record { column = column; bytes = bytes }

-- this value was read, these bytes are left, and these operands were seen
pub record Again {T : Type 0} (m : Result (Read T) LineFault) (value : T) (bytes : List ℕ) (seen : Operands) : Type 0
  where
    pub column : ℕ
    pub is : m ≡ Ok (record { value = value; rest = at column bytes; seen = seen })

-- bytes that pass, before bytes of which the first doesn't
pub prefix_again : (p : ℕ → Bool) (w rest : List ℕ) → list_all p w ≡ true → prefix_len p rest ≡ 0
    → prefix_len p (w ++ rest) ≡ length w
prefix_again p [] rest h e = e
prefix_again p (b ∷ bs) rest h e =
    let both = and_parts (p b) (list_all p bs) h in
    let more = prefix_again p bs rest both.1 e in
    rw both.0 (omega (arith, more))

-- blanks

pub mark_again : (byte c : ℕ) (rest : List ℕ) → mark byte (at c (byte ∷ rest)) ≡ Ok (at (c + 1) rest)
unfolding mark
mark_again byte c rest = let same : (byte == byte) ≡ true = grind (arith, nat_tests) in rw same refl

-- operands

pub digit_here : (k : ℕ) → k < 10 → is_digit (48 + k) ≡ true
digit_here k h = grind (arith, nat_tests)

behind_mark : (byte k : ℕ) (rest : List ℕ) → k < 10 → digit_behind byte (byte ∷ (48 + k) ∷ rest) ≡ Some k
behind_mark byte k rest h =
    let same : (byte == byte) ≡ true = grind (arith, nat_tests) in
    let back : 48 + k - 48 ≡ k = omega arith in
    rw (same, digit_here k h) (ap Some back)

pub operand_again : (o : OperandKind) (k c : ℕ) (rest : List ℕ) (seen : Operands) → k < 10 → may_be o (kind_of seen k)
    ≡ true → Again (operand o (at c (mark_of o ∷ (48 + k) ∷ rest)) seen) k rest (with_operand seen o k)
unfolding operand
operand_again o k c rest seen h may = record {
  column = c + 2;
  is = rw (behind_mark (mark_of o) k rest h)
      (rw may refl);
}

-- what may stand behind a term: no byte of a name or a number, and no range
pub record Stops (rest : List ℕ) : Type 0 where
  pub name : prefix_len is_name_byte rest ≡ 0
  pub digit : prefix_len is_digit rest ≡ 0
  pub plain : begins 91 (drop (prefix_len is_blank rest) rest) ≡ false

-- numbers

pub record IsSigned (z : ℤ) : Type 0 where
  pub low : negsuc 2147483647 ≤ℤ z
  pub high : z ≤ℤ pos 2147483647

pub small_pos : (n : ℕ) → pos n ≤ℤ pos 2147483647 → n < 2 ^ 32
small_pos n h = omega (arith, ints)

pub small_neg : (n : ℕ) → negsuc 2147483647 ≤ℤ negsuc n → suc n < 2 ^ 32
small_neg n h = omega (arith, ints)

-- how a number begins
pub record NumberFront (w : List ℕ) : Type 0 where
  pub first : ℕ
  pub others : List ℕ
  pub is : w ≡ first ∷ others
  pub begins : (first ≡ 45) ⊎ (is_digit first ≡ true)

-- registers

fixed_named : (x : Reg) (w : List ℕ) (c : ℕ) (rest : List ℕ) (seen : Operands) → list_all is_name_byte w ≡ true
    → prefix_len is_name_byte rest ≡ 0 → parts.fixed_of w ≡ Some x
    → Again (parts.fixed_register (at c (w ++ rest)) seen) (Fixed x) rest seen
unfolding parts.fixed_register
fixed_named x w c rest seen h e is =
    let long : prefix_len is_name_byte (w ++ rest) ≡ length w = prefix_again is_name_byte w rest h e in
    let name : take (length w) (w ++ rest) ≡ w = take-append_seam w rest in
    let left : drop (length w) (w ++ rest) ≡ rest = drop-append_seam w rest in
    record { column = c + length w; is = rw (long, name, is) (rw (long, left) refl) }

-- the name of a fixed register
pub record IsNameOf (x : Reg) (w : List ℕ) : Type 0 where
  pub name : list_all is_name_byte w ≡ true
  pub is : parts.fixed_of w ≡ Some x

pub fixed_name : (x : Reg) → IsFixed x → IsNameOf x (reg_text x)
fixed_name (Virt n) h = absurd h
fixed_name Fp h = record { name = refl; is = refl }
fixed_name Rv h = record { name = refl; is = refl }
fixed_name (Arg n) h = subst (λ (w : List ℕ). IsNameOf (Arg n) (97 ∷ 114 ∷ 103 ∷ w))
    (sym (decimal_digit n (omega (arith, h)))) (arg_name n h)
  where
    arg_name : (n : ℕ) → n ≤ 3 → IsNameOf (Arg n) (97 ∷ 114 ∷ 103 ∷ (48 + n) ∷ [])
    arg_name zero h = record { name = refl; is = refl }
    arg_name (suc zero) h = record { name = refl; is = refl }
    arg_name (suc (suc zero)) h = record { name = refl; is = refl }
    arg_name (suc (suc (suc zero))) h = record { name = refl; is = refl }
    arg_name (suc (suc (suc (suc n)))) h = absurd (omega (arith, h))

pub fixed_again : (x : Reg) (c : ℕ) (rest : List ℕ) (seen : Operands) → IsFixed x → prefix_len is_name_byte rest ≡ 0
    → Again (parts.fixed_register (at c (reg_text x ++ rest)) seen) (Fixed x) rest seen
fixed_again x c rest seen h e = let name = fixed_name x h in fixed_named x (reg_text x) c rest seen name.name e name.is

pub any_again : (k c : ℕ) (rest : List ℕ) (seen : Operands) → k < 10 → MayStand seen (place k OfReg false)
    → Again (parts.any_register (at c (37 ∷ (48 + k) ∷ rest)) seen) (Any k) rest (with_operand seen Register k)
unfolding parts.any_register
any_again k c rest seen h may = let got = operand_again Register k c rest seen h may.may in let is = got.is in
    record { column = got.column; is = rw is refl }

-- constants

pub le_from : (a b : ℤ) → int_le a b ≡ true → a ≤ℤ b
le_from a b h = grind (arith, ints)

pub le_through : (a b c : ℤ) → a ≤ℤ b → b ≤ℤ c → a ≤ℤ c
le_through a b c h g = omega (arith, ints)

pub symbol_again : (k c : ℕ) (rest : List ℕ) (seen : Operands) → k < 10 → MayStand seen (place k OfSym false)
    → Again (parts.symbol_address (at c (38 ∷ (48 + k) ∷ rest)) seen) (pat.Addr k) rest (with_operand seen Symbol k)
unfolding parts.symbol_address
symbol_again k c rest seen h may = let got = operand_again Symbol k c rest seen h may.may in let is = got.is in
    record { column = got.column; is = rw is refl }

pub word_signed : (n : ℕ) → n < 2 ^ 32 → IsSigned (signed n)
word_signed n h = record { low = omega (arith, ints); high = omega (arith, ints) }
