-- What stands as its form says is read: blanks, numbers, ranges and constants.
use Rattle.std.proofs.Common.{◌≡◌, ℕ, ◌+◌, ◌<◌, ◌≤◌, ◌^◌, ◌==◌, ◌&&◌, ◌⊎◌, inl, inr, Bool, true, false, List, [], ◌∷◌}
use Rattle.std.proofs.Common.{◌++◌, length, take, drop, codes, refl, sym, ap, ◌∙◌, subst, arith, Option, Some}
use Rattle.std.proofs.Common.{None, Ok, ℤ, pos, negsuc, eqb-true}
use Rattle.std.specs.Prelude.{◌≤ℤ◌, int_le, cond, nat_le, neg_ℤ}
use Rattle.std.specs.Option.{option_map}
use Rattle.std.specs.List.{list_all, prefix_len}
use Rattle.std.specs.Char.{is_ascii_digit}
use Rattle.std.specs.Int.{w32}
use Rattle.std.proofs.lemmas.Bool.{and_parts}
use Rattle.std.proofs.lemmas.Bool.Decides.{nat_tests}
use Rattle.std.proofs.lemmas.Fmt.{decimal_digit}
use Rattle.std.proofs.lemmas.Int.{ints, of_z-to_z}
use Rattle.std.proofs.lemmas.List.{length-append}
use Rattle.std.proofs.Math.Seq.{take-append_seam, drop-append_seam}
use Rattle.po_word.specs.Words.{signed, word_of}
use Rattle.po_text.specs.Words.{is_blank}
use Rattle.po_text.specs.Number.{are_digits, natural_of, number_of, digits_value}
use Rattle.po_name.specs.Names.{is_digit, is_name_byte}
use Rattle.po_lines.specs.Words.{Placed}
use Rattle.po_lines.specs.Leaves.{bounded, number_in, signed_number_in}
use Rattle.po_lines.proofs.Results.{chosen}
use Rattle.po_model.specs.declared.machine.Bounds.{Bounds}
use Rattle.po_model.specs.declared.machine.PatTerm.TheVariants as pat
use Rattle.po_model.specs.Entries.{OfNum, place, has_range, HasRange}
use Rattle.po_pattern.specs.declared.operands.Operands.{Operands}
use Rattle.po_pattern.specs.declared.operands.OperandKind.TheVariants.{Constant}
use Rattle.po_pattern.specs.Rests.{Rest, skip_blanks, begins, mark}
use Rattle.po_pattern.specs.Seen.{kind_of, with_operand, is_new}
use Rattle.po_pattern.specs.Parts as parts
use Rattle.po_entry.specs.EntryText.{operand_text}
use Rattle.po_entry.specs.Writing as writing
use Rattle.po_entry.specs.Writing.{text, blanks, ◌⨾◌}
use Rattle.po_entry.proofs.Noted.{MayStand}
use Rattle.po_entry.proofs.AgainParts.{at, Again, prefix_again, mark_again, operand_again, Stops, IsSigned}
use Rattle.po_entry.proofs.AgainParts.{NumberFront}
use Rattle.po_entry.proofs.AgainParts.{le_from, le_through, word_signed}

-- lengths

pub blanks_length : (a b : List ℕ) → blanks a b → length b ≤ length a
blanks_length a b h =
    let long : length a ≡ length (h.0 ++ b) = ap length h.2 in
    omega (arith, long, length-append h.0 b)

pub text_length : (w a b : List ℕ) → text w a b → length a ≡ length w + length b
text_length w a b h = ap length h ∙ length-append w b

-- blanks

pub record Skips (c : ℕ) (a b : List ℕ) : Type 0 where
  pub column : ℕ
  pub is : skip_blanks (at c a) ≡ at column b

pub skips : (c : ℕ) (a b : List ℕ) → blanks a b → prefix_len is_blank b ≡ 0 → Skips c a b
unfolding skip_blanks
skips c a b h solid =
    let long : prefix_len is_blank (h.0 ++ b) ≡ length h.0 = prefix_again is_blank h.0 b h.1 solid in
    let left : drop (length h.0) (h.0 ++ b) ≡ b = drop-append_seam h.0 b in
    let found : skip_blanks (at c (h.0 ++ b)) ≡ at (c + length h.0) b = rw (long, left) refl in
    record {
      column = c + length h.0;
      is = ap (λ (w : List ℕ). skip_blanks (at c w)) h.2 ∙ found;
    }

-- a byte that isn't blank
pub solid_at : (byte : ℕ) (a b : List ℕ) → text (byte ∷ []) a b → is_blank byte ≡ false → prefix_len is_blank a ≡ 0
solid_at byte a b h e = ap (prefix_len is_blank) h
    ∙ (let none : prefix_len is_blank (byte ∷ b) ≡ 0 = rw e refl in none)

-- the mark behind blanks
pub record Marks (byte c : ℕ) (a to : List ℕ) : Type 0 where
  pub column : ℕ
  pub is : mark byte (skip_blanks (at c a)) ≡ Ok (at column to)

pub marks : (byte c : ℕ) (a b to : List ℕ) → blanks a b → text (byte ∷ []) b to → is_blank byte ≡ false
    → Marks byte c a to
marks byte c a b to h g e =
    let skip = skips c a b h (solid_at byte b to g e) in
    record {
      column = skip.column + 1;
      is = ap (mark byte) skip.is ∙ ap (λ (w : List ℕ). mark byte (at skip.column w)) g
          ∙ mark_again byte skip.column to;
    }

-- what may stand behind a term's part: no byte of a name or a number, no blank, and no range
pub record Clear (b : List ℕ) : Type 0 where
  pub solid : prefix_len is_blank b ≡ 0
  pub name : prefix_len is_name_byte b ≡ 0
  pub digit : prefix_len is_digit b ≡ 0
  pub plain : begins 91 b ≡ false

clear_here : (b : List ℕ) → Clear b → Stops b
clear_here b h = let solid = h.solid in record { name = h.name; digit = h.digit; plain = rw solid h.plain }

blank_no_name : (b : ℕ) → is_blank b ≡ true → is_name_byte b ≡ false
blank_no_name b e = grind (arith, nat_tests)

blank_no_digit : (b : ℕ) → is_blank b ≡ true → is_digit b ≡ false
blank_no_digit b e = grind (arith, nat_tests)

-- blanks, behind which no range stands
pub blank_stops : (x : ℕ) (xs b : List ℕ) → list_all is_blank (x ∷ xs) ≡ true → prefix_len is_blank b ≡ 0
    → begins 91 b ≡ false → Stops ((x ∷ xs) ++ b)
blank_stops x xs b all solid plain =
    let first = (and_parts (is_blank x) (list_all is_blank xs) all).0 in
    let no_name = blank_no_name x first in
    let no_digit = blank_no_digit x first in
    let long : prefix_len is_blank (x ∷ xs ++ b) ≡ length (x ∷ xs) = prefix_again is_blank (x ∷ xs) b all solid in
    let left : drop (length (x ∷ xs)) (x ∷ xs ++ b) ≡ b = drop-append_seam (x ∷ xs) b in
    record { name = rw no_name refl; digit = rw no_digit refl; plain = rw (long, left) plain }

-- the same with nothing or blanks before what is clear
pub clear_stops : (a b : List ℕ) → blanks a b → Clear b → Stops a
clear_stops a b h clear = subst (λ (w : List ℕ). Stops w) (sym h.2) (by_blanks h.0 h.1)
  where
    by_blanks : (bs : List ℕ) → list_all is_blank bs ≡ true → Stops (bs ++ b)
    by_blanks [] all = clear_here b clear
    by_blanks (x ∷ xs) all = blank_stops x xs b all clear.solid clear.plain

-- a mark is clear
pub clear_mark : (byte : ℕ) (a b : List ℕ) → text (byte ∷ []) a b → is_blank byte ≡ false → is_name_byte byte ≡ false
    → is_digit byte ≡ false → (byte == 91) ≡ false → Clear a
clear_mark byte a b h e f g k = subst (λ (w : List ℕ). Clear w) (sym h)
    (record { solid = rw e refl; name = rw f refl; digit = rw g refl; plain = k })

-- numbers

digits_same : (ds : List ℕ) → list_all is_ascii_digit ds ≡ true → list_all is_digit ds ≡ true
digits_same [] h = refl
digits_same (d ∷ ds) h =
    let both = and_parts (is_ascii_digit d) (list_all is_ascii_digit ds) h in
    let first : is_digit d ≡ true = one d both.0 in
    let more = digits_same ds both.1 in
    rw (first, more) refl
  where
    one : (d : ℕ) → is_ascii_digit d ≡ true → is_digit d ≡ true
    one d e = grind (arith, nat_tests)

by_digits : (f : ℕ → ℤ) (v : ℕ) (z : ℤ) (x : Bool) → option_map f (cond x (Some v) None) ≡ Some z → x ≡ true
by_digits f v z true e = refl
by_digits f v z false e = absurd (cc)

all_digits : (f : ℕ → ℤ) (w : List ℕ) (z : ℤ) → option_map f (natural_of w) ≡ Some z
    → (0 < length w) × (list_all is_digit w ≡ true)
all_digits f w z e =
    let digits : are_digits w ≡ true = by_digits f (digits_value w) z (are_digits w) e in
    let first = and_parts (nat_le 1 (length w)) (nat_le (length w) 10 && list_all is_ascii_digit w) digits in
    let second = and_parts (nat_le (length w) 10) (list_all is_ascii_digit w) first.1 in
    let some : nat_le 1 (length w) ≡ true = first.0 in
    (some_length (length w) some, digits_same w second.1)
  where
    some_length : (n : ℕ) → nat_le 1 n ≡ true → 0 < n
    some_length n e = grind (arith, nat_tests)

pub record IsNumberText (ds : List ℕ) : Type 0 where
  pub front : NumberFront ds
  pub long : (rest : List ℕ) → prefix_len is_digit rest ≡ 0 → parts.number_length (ds ++ rest) ≡ length ds

pub number_text : (ds : List ℕ) (z : ℤ) → number_of ds ≡ Some z → IsNumberText ds
number_text [] z e = absurd (cc)
number_text (b ∷ bs) z e = elim (chosen (b == 45) _ _ _ e) [
  | inl (h, is) ↦ (let digits = all_digits (λ n. neg_ℤ (pos n)) bs z is in record {
    front = record { first = b; others = bs; is = refl; begins = inl (eqb-true b 45 h) };
    long = λ rest none. let more = prefix_again is_digit bs rest digits.1 none in rw h (omega (arith, more));
  })
  | inr (h, is) ↦ (let digits = all_digits (λ n. pos n) (b ∷ bs) z is in
      let first = (and_parts (is_digit b) (list_all is_digit bs) digits.1).0 in record {
        front = record { first = b; others = bs; is = refl; begins = inr first };
        long = λ rest none. let more = prefix_again is_digit (b ∷ bs) rest digits.1 none in rw h more;
      })
]

le_to : (a b : ℤ) → a ≤ℤ b → int_le a b ≡ true
le_to a b h = grind (arith, ints)

bounded_in : (column : ℕ) (z : ℤ) (found : Option ℤ) → found ≡ Some z → IsSigned z
    → bounded (negsuc 2147483647) (pos 2147483647) column found ≡ Ok z
bounded_in column z found e h =
    let low : int_le (negsuc 2147483647) z ≡ true = le_to (negsuc 2147483647) z h.low in
    let high : int_le z (pos 2147483647) ≡ true = le_to z (pos 2147483647) h.high in
    let found : bounded (negsuc 2147483647) (pos 2147483647) column (Some z) ≡ Ok z = rw (low, high) refl in
    ap (bounded (negsuc 2147483647) (pos 2147483647) column) e ∙ found

signed_in : (w : Placed) (z : ℤ) → number_of w.bytes ≡ Some z → IsSigned z → signed_number_in w ≡ Ok z
unfolding signed_number_in number_in
signed_in w z e h = bounded_in w.column z (number_of w.bytes) e h

number_here : (c : ℕ) (ds rest : List ℕ) (z : ℤ) → number_of ds ≡ Some z → IsSigned z
    → parts.number_with (at c (ds ++ rest)) (length ds) (ds ++ rest) ≡ Ok z
number_here c [] rest z e h = absurd (cc)
number_here c (b ∷ bs) rest z e h = signed_in
    (record { column = c; bytes = take (length (b ∷ bs)) (b ∷ bs ++ rest) }) z
    (ap number_of (take-append_seam (b ∷ bs) rest) ∙ e) h

number_at : (z : ℤ) (c : ℕ) (ds to : List ℕ) (seen : Operands) → number_of ds ≡ Some z → IsSigned z
    → prefix_len is_digit to ≡ 0 → Again (parts.number (at c (ds ++ to)) seen) z to seen
unfolding parts.number parts.number_at
number_at z c ds to seen e h none =
    let long = (number_text ds z e).long to none in
    let got = number_here c ds to z e h in
    let left : drop (length ds) (ds ++ to) ≡ to = drop-append_seam ds to in
    record { column = c + length ds; is = rw (long, got, left) refl }

pub number_reads : (z : ℤ) (c : ℕ) (from to : List ℕ) (seen : Operands) → writing.number z from to → IsSigned z
    → prefix_len is_digit to ≡ 0 → Again (parts.number (at c from) seen) z to seen
number_reads z c from to seen h signs none =
    subst (λ (w : List ℕ). Again (parts.number (at c w) seen) z to seen) (sym h.2)
    (number_at z c h.0 to seen h.1 signs none)

no_blank : (b : ℕ) → (b ≡ 45) ⊎ (is_digit b ≡ true) → is_blank b ≡ false
no_blank b (inl e) = grind (arith, nat_tests)
no_blank b (inr e) = grind (arith, nat_tests)

number_solid : (z : ℤ) (from to : List ℕ) → writing.number z from to → prefix_len is_blank from ≡ 0
number_solid z from to h =
    let front = (number_text h.0 z h.1).front in
    let no = no_blank front.first front.begins in
    let here : prefix_len is_blank (front.first ∷ (front.others ++ to)) ≡ 0 = rw no refl in
    ap (prefix_len is_blank) (h.2 ∙ ap (λ (w : List ℕ). w ++ to) front.is) ∙ here

-- a number behind blanks
number_behind : (z : ℤ) (c : ℕ) (a b to : List ℕ) (seen : Operands) → blanks a b → writing.number z b to → IsSigned z
    → prefix_len is_digit to ≡ 0 → Again (parts.number (skip_blanks (at c a)) seen) z to seen
number_behind z c a b to seen h g signs none =
    let skip = skips c a b h (number_solid z b to g) in
    subst (λ (r : Rest). Again (parts.number r seen) z to seen) (sym skip.is)
    (number_reads z skip.column b to seen g signs none)

-- ranges

range_reads : (b : Bounds) (c : ℕ) (from mid to : List ℕ) (seen : Operands) → HasRange (Some b)
    → text (codes "[") from mid
    → (blanks ⨾ writing.number b.lo ⨾ blanks ⨾ text (codes ",") ⨾ blanks ⨾ writing.number b.hi ⨾ blanks
    ⨾ text (codes "]")) mid to
    → Again (parts.range (at c from) seen) (Some b) to seen
unfolding parts.range
range_reads b c from mid to seen h opens inside =
    let low_end : negsuc 2147483647 ≤ℤ b.lo = le_from (negsuc 2147483647) b.lo h.from in
    let order : b.lo ≤ℤ b.hi = le_from b.lo b.hi h.order in
    let high_end : b.hi ≤ℤ pos 2147483647 = le_from b.hi (pos 2147483647) h.to in
    let ordered : int_le b.lo b.hi ≡ true = h.order in
    let lows : IsSigned b.lo = record { low = low_end; high = le_through b.lo b.hi (pos 2147483647) order high_end } in
    let highs : IsSigned b.hi = record {
      low = le_through (negsuc 2147483647) b.lo b.hi low_end order;
      high = high_end;
    } in
    let i = inside.2 in
    let j = i.2 in
    let k = j.2 in
    let l = k.2 in
    let m = l.2 in
    let n = m.2 in
    let start : mark 91 (at c from) ≡ Ok (at (c + 1) mid) = ap (λ (w : List ℕ). mark 91 (at c w)) opens
    ∙ mark_again 91 c mid in
    let comma_clear = clear_stops i.0 j.0 j.1 (clear_mark 44 j.0 k.0 k.1 refl refl refl refl) in
    let one = number_behind b.lo (c + 1) mid inside.0 i.0 seen inside.1 i.1 lows comma_clear.digit in
    let first = one.is in
    let comma = marks 44 one.column i.0 j.0 k.0 j.1 k.1 refl in
    let second = comma.is in
    let close_clear = clear_stops m.0 n.0 n.1 (clear_mark 93 n.0 to n.2 refl refl refl refl) in
    let two = number_behind b.hi comma.column k.0 l.0 m.0 seen l.1 m.1 highs close_clear.digit in
    let third = two.is in
    let close = marks 93 two.column m.0 n.0 to n.1 n.2 refl in
    let fourth = close.is in
    record { column = close.column; is = rw (start, first, second, third, ordered, fourth) refl }

none_reads : (new : Bool) (column c : ℕ) (to : List ℕ) (seen : Operands) → Stops to
    → Again (parts.range_behind column new (at c to) seen) None to seen
unfolding parts.range_behind skip_blanks
none_reads new column c to seen stops = let plain = stops.plain in record { column = c; is = rw plain refl }

range_behind_reads : (bounds : Option Bounds) (new : Bool) (column c : ℕ) (from to : List ℕ) (seen : Operands)
    → writing.range bounds from to → HasRange bounds → (has_range bounds ≡ true → new ≡ true) → Stops to
    → Again (parts.range_behind column new (at c from) seen) bounds to seen
unfolding parts.range_behind
range_behind_reads None new column c from to seen h r n stops =
    subst (λ (w : List ℕ). Again (parts.range_behind column new (at c w) seen) None to seen) (sym h)
    (none_reads new column c to seen stops)
range_behind_reads (Some b) new column c from to seen h r n stops =
    let skip = skips c from h.0 h.1 (solid_at 91 h.0 h.2.0 h.2.1 refl) in
    let skipped = skip.is in
    let begun : begins 91 h.0 ≡ true = ap (begins 91) h.2.1 in
    let yes : new ≡ true = n refl in
    let got = range_reads b skip.column h.0 h.2.0 to seen r h.2.1 h.2.2 in
    let is = got.is in
    record { column = got.column; is = rw (skipped, begun, yes) (rw is refl) }

pub operand_bytes : (byte k : ℕ) (a b : List ℕ) → k < 10 → text (operand_text (byte ∷ []) k) a b
    → a ≡ byte ∷ (48 + k) ∷ b
operand_bytes byte k a b small h = h ∙ ap (λ (w : List ℕ). byte ∷ (w ++ b)) (decimal_digit k small)

constant_here : (k : ℕ) (bounds : Option Bounds) (c : ℕ) (mid to : List ℕ) (seen : Operands) → k < 10
    → writing.range bounds mid to → HasRange bounds → MayStand seen (place k OfNum (has_range bounds)) → Stops to
    → Again (parts.constant (at c (35 ∷ (48 + k) ∷ mid)) seen) (pat.Const k bounds) to (with_operand seen Constant k)
unfolding parts.constant
constant_here k bounds c mid to seen small h r may stops =
    let one = operand_again Constant k c mid seen small may.may in
    let first = one.is in
    let two = range_behind_reads bounds (is_new (kind_of seen k)) c one.column mid to (with_operand seen Constant k)
    h r may.new stops in
    let second = two.is in
    record { column = two.column; is = rw (first, second) refl }

pub constant_reads : (k : ℕ) (bounds : Option Bounds) (c : ℕ) (from to : List ℕ) (seen : Operands) → k < 10
    → (text (operand_text (codes "#") k) ⨾ writing.range bounds) from to → HasRange bounds
    → MayStand seen (place k OfNum (has_range bounds)) → Stops to
    → Again (parts.constant (at c from) seen) (pat.Const k bounds) to (with_operand seen Constant k)
constant_reads k bounds c from to seen small h r may stops =
    subst (λ (w : List ℕ). Again (parts.constant (at c w) seen) (pat.Const k bounds) to (with_operand seen Constant k))
    (sym (operand_bytes 35 k from h.0 small h.1)) (constant_here k bounds c h.0 to seen small h.2 r may stops)

pub numeral_reads : (n c : ℕ) (ds to : List ℕ) (seen : Operands) → number_of ds ≡ Some (signed n) → n < 2 ^ 32
    → Stops to → Again (parts.numeral (at c (ds ++ to)) seen) (pat.Num n) to seen
unfolding parts.numeral
numeral_reads n c ds to seen e small stops =
    let got = number_at (signed n) c ds to seen e (word_signed n small) stops.digit in
    let is = got.is in
    let back : word_of (signed n) ≡ n = of_z-to_z w32 n small in
    record { column = got.column; is = rw (is, back) refl }
