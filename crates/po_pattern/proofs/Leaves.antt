-- What was read where a part without parts of its own stands: its places, its numbers, and that some byte was taken.
use Rattle.std.proofs.Common.{◌≡◌, ℕ, ◌-◌, ◌<◌, ◌≤◌, ◌==◌, ◌&&◌, true, false, nat_le, List, [], ◌∷◌, ◌++◌, length}
use Rattle.std.proofs.Common.{take, refl, sym, ap, subst, arith, zero, suc, Option, Some, None, Ok, ℤ, pos, negsuc}
use Rattle.std.proofs.Common.{inl, inr, leb-true}
use Rattle.std.specs.Prelude.{int_le}
use Rattle.std.proofs.lemmas.Bool.{and_parts}
use Rattle.std.proofs.lemmas.List.{length-drop}
use Rattle.po_text.specs.Number.{number_of}
use Rattle.po_name.specs.Names.{is_digit}
use Rattle.po_lines.specs.Words.{Placed}
use Rattle.po_lines.specs.Leaves.{bounded, number_in, signed_number_in}
use Rattle.po_lines.proofs.Results.{chosen, bind_ok, ok_is, not_ok}
use Rattle.po_pattern.specs.declared.operands.Operands.{Operands}
use Rattle.po_pattern.specs.declared.operands.OperandKind.{OperandKind}
use Rattle.po_pattern.specs.Rests.{Rest, Read, skip_blanks, begins, mark}
use Rattle.po_pattern.specs.Seen.{kind_of, with_operand, may_be}
use Rattle.po_pattern.specs.Parts.{digit_behind, mark_of, operand_with, operand, number_with, number_at}
use Rattle.po_pattern.specs.Parts.{number_length, number}
use Rattle.po_model.specs.Entries.{Place, place}
use Rattle.po_pattern.proofs.Told.{Tells, sort_of, told_more}

-- what was read of this form where so much was seen: its places, which stand behind those before it
pub record Found {T : Type 0} (Has : T → List Place → Type 0) (before : Operands) (value : T) (after : Operands)
    : Type 0 where
  pub places : List Place
  pub has : Has value places
  pub told : (ps : List Place) → Tells before ps → Tells after (ps ++ places)

-- the same, and a byte was taken
pub record Came {T : Type 0} (Has : T → List Place → Type 0) (r : Rest) (seen : Operands) (x : Read T) : Type 0 where
  pub places : List Place
  pub has : Has x.value places
  pub told : (ps : List Place) → Tells seen ps → Tells x.seen (ps ++ places)
  pub shorter : length x.rest.bytes < length r.bytes

pub found_of : {T : Type 0} {Has : T → List Place → Type 0} {r : Rest} {seen : Operands} {x : Read T}
    → Came Has r seen x → Found Has seen x.value x.seen
found_of came = record { places = came.places; has = came.has; told = came.told }

-- blanks and marks

pub not_longer : (r : Rest) → length (skip_blanks r).bytes ≤ length r.bytes
unfolding skip_blanks
not_longer r = simp length-drop (omega arith)

begun : (byte : ℕ) (bs : List ℕ) → begins byte bs ≡ true → 0 < length bs
begun byte [] e = cc
begun byte (b ∷ bs) e = omega arith

pub mark_shorter : (byte : ℕ) (r s : Rest) → mark byte r ≡ Ok s → length s.bytes < length r.bytes
unfolding mark
mark_shorter byte r s e = elim (chosen (begins byte r.bytes) _ _ _ e) [
  | inl (h, is) ↦ (let some : 0 < length r.bytes = begun byte r.bytes h in
      subst (λ (t : Rest). length t.bytes < length r.bytes) (ok_is is) (simp length-drop (omega arith)))
  | inr (h, is) ↦ absurd (not_ok is)
]

-- an operand

pub record Took (o : OperandKind) (r : Rest) (seen : Operands) (x : Read ℕ) : Type 0 where
  pub small : x.value < 10
  pub may : may_be o (kind_of seen x.value) ≡ true
  pub noted : x.seen ≡ with_operand seen o x.value
  pub shorter : length x.rest.bytes < length r.bytes

digit_below : (d : ℕ) → is_digit d ≡ true → d - 48 < 10
digit_below d e = let parts = and_parts (nat_le 48 d) (nat_le d 57) e in let high : d ≤ 57 = leb-true _ _ parts.1 in
    omega arith

digit_found : (byte : ℕ) (bs : List ℕ) (k : ℕ) → digit_behind byte bs ≡ Some k → (k < 10) × (2 ≤ length bs)
digit_found byte [] k e = cc
digit_found byte (b ∷ []) k e = cc
digit_found byte (b ∷ d ∷ ds) k e = elim (chosen (b == byte) _ _ _ e) [
  | inl (h, is) ↦ elim (chosen (is_digit d) _ _ _ is) [
    | inl (g, at) ↦ (let same : d - 48 ≡ k = cc in (subst (λ (n : ℕ). n < 10) same (digit_below d g), omega arith))
    | inr (g, at) ↦ cc
  ]
  | inr (h, is) ↦ cc
]

operand_found : (o : OperandKind) (r : Rest) (seen : Operands) (x : Read ℕ) (k : Option ℕ) → digit_behind (mark_of o)
    r.bytes ≡ k → operand_with o r seen k ≡ Ok x → Took o r seen x
operand_found o r seen x None h e = absurd (not_ok e)
operand_found o r seen x (Some k) h e = let found = digit_found (mark_of o) r.bytes k h in
    elim (chosen (may_be o (kind_of seen k)) _ _ _ e) [
      | inl (m, is) ↦ subst (λ (y : Read ℕ). Took o r seen y) (ok_is is)
          (record { small = found.0; may = m; noted = refl; shorter = simp length-drop (omega (arith, found.1)) })
      | inr (m, is) ↦ absurd (not_ok is)
    ]

pub operand_took : (o : OperandKind) (r : Rest) (seen : Operands) (x : Read ℕ) → operand o r seen ≡ Ok x
    → Took o r seen x
unfolding operand
operand_took o r seen x e = operand_found o r seen x (digit_behind (mark_of o) r.bytes) refl e

-- a digit at this place
pub record IsDigitAt (o : OperandKind) (k : ℕ) (ps : List Place) : Type 0 where
  pub small : k < 10
  pub is : ps ≡ place k (sort_of o) false ∷ []

pub operand_came : (o : OperandKind) (r : Rest) (seen : Operands) (x : Read ℕ) → operand o r seen ≡ Ok x
    → Came (IsDigitAt o) r seen x
operand_came o r seen x e = let took = operand_took o r seen x e in record {
  places = place x.value (sort_of o) false ∷ [];
  has = record { small = took.small; is = refl };
  told = λ ps t. subst (λ (s : Operands). Tells s (ps ++ place x.value (sort_of o) false ∷ [])) (sym took.noted)
      (told_more seen o x.value false ps took.small took.may (λ h. cc) t);
  shorter = took.shorter;
}

-- a number

pub record TookNumber (r : Rest) (seen : Operands) (x : Read ℤ) : Type 0 where
  pub low : int_le (negsuc 2147483647) x.value ≡ true
  pub high : int_le x.value (pos 2147483647) ≡ true
  pub noted : x.seen ≡ seen
  pub shorter : length x.rest.bytes < length r.bytes

number_within : (low high : ℤ) (column : ℕ) (n : Option ℤ) (z : ℤ) → bounded low high column n ≡ Ok z → (n ≡ Some z)
    × (int_le low z ≡ true) × (int_le z high ≡ true)
number_within low high column None z e = absurd (not_ok e)
number_within low high column (Some n) z e = elim (chosen (int_le low n && int_le n high) _ _ _ e) [
  | inl (h, is) ↦ (let parts = and_parts (int_le low n) (int_le n high) h in
      let same : n ≡ z = ok_is is in (
        ap Some same,
        subst (λ (y : ℤ). int_le low y ≡ true) same parts.0,
        subst (λ (y : ℤ). int_le y high ≡ true) same
            parts.1,
      ))
  | inr (h, is) ↦ absurd (not_ok is)
]

signed_within : (w : Placed) (z : ℤ) → signed_number_in w ≡ Ok z → (number_of w.bytes ≡ Some z)
    × (int_le (negsuc 2147483647) z ≡ true) × (int_le z (pos 2147483647) ≡ true)
unfolding signed_number_in number_in
signed_within w z e = number_within (negsuc 2147483647) (pos 2147483647) w.column (number_of w.bytes) z e

number_taken : (r : Rest) (n : ℕ) (bs : List ℕ) (z : ℤ) → number_with r n bs ≡ Ok z → (0 < n) × (0 < length bs)
    × (int_le (negsuc 2147483647) z ≡ true) × (int_le z (pos 2147483647) ≡ true)
number_taken r n [] z e = absurd (not_ok e)
number_taken r zero (b ∷ bs) z e = let is = signed_within (record { column = r.column; bytes = [] }) z e in
    let no : ⊥ = cc (is.0) in absurd no
number_taken r (suc n) (b ∷ bs) z e = let is = signed_within
    (record { column = r.column; bytes = take (suc n) (b ∷ bs) }) z e in (omega arith, omega arith, is.1, is.2)

pub number_took : (r : Rest) (seen : Operands) (x : Read ℤ) → number r seen ≡ Ok x → TookNumber r seen x
unfolding number number_at
number_took r seen x e = let parts = bind_ok (number_at r (number_length r.bytes)) _ x e in
    let taken = number_taken r (number_length r.bytes) r.bytes parts.0 parts.1 in
    subst (λ (y : Read ℤ). TookNumber r seen y) (ok_is parts.2)
    (record {
      low = taken.2;
      high = taken.3;
      noted = refl;
      shorter = simp length-drop
          (omega (arith, taken.0, taken.1));
    })
