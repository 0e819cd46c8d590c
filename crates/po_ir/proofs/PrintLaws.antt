-- A printed unit is read as itself.
use Rattle.std.proofs.Common.{◌≡◌, ℕ, suc, ◌+◌, ◌-◌, ◌≤◌, ◌<◌, ◌^◌, List, [], ◌∷◌, ◌++◌, Bool, true, false, Ok, Some}
use Rattle.std.proofs.Common.{refl, ap, sym, ◌∙◌, subst, map, length, arith, append_assoc, length-append, All}
use Rattle.std.specs.Prelude.{ℤ, pos, negsuc, ◌≤ℤ◌, codes, ◌==◌, ◌&&◌, nat_eq, nat_le, nat_lt, slice_index}
use Rattle.std.specs.Char.{is_ascii_digit}
use Rattle.std.specs.Int.{w32}
use Rattle.std.specs.Fmt.{decimal, signed_decimal}
use Rattle.std.specs.List.{AllByRecursion, AllZip, flat_map, join_with_byte, list_all, slice_split, starts_with}
use Rattle.std.specs.Str.Lines.{strip_carriage_return}
use Rattle.std.proofs.lemmas.Bool.Decides.{nat_tests}
use Rattle.std.proofs.lemmas.Fmt.{digits_decimal, length-decimal-le, decimal_is_IsNumeral}
use Rattle.std.proofs.lemmas.Int.{ints, of_z-to_z}
use Rattle.std.proofs.lemmas.List.Elements.{All-nil, All-cons, All-from_recursion, recursion_from_All}
use Rattle.std.proofs.lemmas.List.Folds.{list_all-append}
use Rattle.std.proofs.lemmas.List.Splits.{slice_split_at}
use Rattle.po_word.specs.Words.{signed}
use Rattle.po_word.specs.declared.operator.Bin.TheVariants as bin
use Rattle.po_word.specs.declared.operator.Un.TheVariants as un
use Rattle.po_word.specs.declared.operator.Rel.TheVariants as rel
use Rattle.po_text.specs.Number.{number_of}
use Rattle.po_text.specs.Words.{is_blank}
use Rattle.po_name.specs.Names.{is_name, is_name_byte, begins_name}
use Rattle.po_lines.specs.Lines.{Numbered, is_feed, lines_at, lines_from}
use Rattle.po_lines.proofs.LimitLaws.{within_is}
use Rattle.po_lines.proofs.NumberLaws.{own, printed_again}
use Rattle.po_lines.proofs.WordLaws.{IsSolid, words_again}
use Rattle.po_ir.specs.declared.unit.Op.{Op}
use Rattle.po_ir.specs.declared.unit.Op.TheVariants as op
use Rattle.po_ir.specs.declared.unit.Key.{Key}
use Rattle.po_ir.specs.declared.unit.Key.TheVariants as key
use Rattle.po_ir.specs.declared.unit.Unit.{Unit as StackUnit}
use Rattle.po_ir.specs.Keys.{key_text}
use Rattle.po_ir.specs.Units.{IsOp, IsUnit}
use Rattle.po_ir.specs.Grammar.{IsWordNumber, IsArgument, IsOpLine, IsShort, texts_of, is_silent, said, IsUnits}
use Rattle.po_ir.specs.Printing.{number_text, argument_words, op_words, unit_words, line_text, unit_text}
use Rattle.po_ir.specs.Reading.{units_behind}
use Rattle.po_ir.proofs.LineLaws.{key_facts}
use Rattle.po_ir.proofs.TextLaws.{units_again}

-- a word has a byte, and neither blanks nor ends of lines
record IsPrinted (w : List ℕ) : Type 0 where
  some : 0 < length w
  graphic : list_all (nat_le 33) w ≡ true

key_printed : (k : Key)
    → (list_all (nat_le 33) (key_text k) ≡ true) × (nat_lt 0 (length (key_text k)) ≡ true)
    × (nat_le (length (key_text k)) 4 ≡ true)
key_printed key.Con = (refl, refl, refl)
key_printed key.Adl = (refl, refl, refl)
key_printed key.Adg = (refl, refl, refl)
key_printed key.Lod = (refl, refl, refl)
key_printed key.Sto = (refl, refl, refl)
key_printed key.Dup = (refl, refl, refl)
key_printed key.Pop = (refl, refl, refl)
key_printed key.Lab = (refl, refl, refl)
key_printed key.Jmp = (refl, refl, refl)
key_printed key.Arg = (refl, refl, refl)
key_printed key.Call = (refl, refl, refl)
key_printed key.Ret = (refl, refl, refl)
key_printed (key.Bin bin.Add) = (refl, refl, refl)
key_printed (key.Bin bin.Sub) = (refl, refl, refl)
key_printed (key.Bin bin.Mul) = (refl, refl, refl)
key_printed (key.Bin bin.And) = (refl, refl, refl)
key_printed (key.Bin bin.Or) = (refl, refl, refl)
key_printed (key.Bin bin.Xor) = (refl, refl, refl)
key_printed (key.Bin bin.Shl) = (refl, refl, refl)
key_printed (key.Bin bin.Shr) = (refl, refl, refl)
key_printed (key.Bin bin.Sar) = (refl, refl, refl)
key_printed (key.Un un.Neg) = (refl, refl, refl)
key_printed (key.Un un.Not) = (refl, refl, refl)
key_printed (key.Br rel.Eq) = (refl, refl, refl)
key_printed (key.Br rel.Ne) = (refl, refl, refl)
key_printed (key.Br rel.Lt) = (refl, refl, refl)
key_printed (key.Br rel.Le) = (refl, refl, refl)
key_printed (key.Br rel.Gt) = (refl, refl, refl)
key_printed (key.Br rel.Ge) = (refl, refl, refl)
key_printed (key.Br rel.Ltu) = (refl, refl, refl)
key_printed (key.Br rel.Geu) = (refl, refl, refl)

both : (a b : Bool) → (a && b) ≡ true → (a ≡ true) × (b ≡ true)
both true b h = (refl, h)
both false b h = cc

less : (a b : ℕ) → nat_lt a b ≡ true → a < b
less a b h = grind (arith, nat_tests)

at_most : (a b : ℕ) → nat_le a b ≡ true → a ≤ b
at_most a b h = grind (arith, nat_tests)

key_is_printed : (k : Key) → IsPrinted (key_text k)
key_is_printed k = let h = key_printed k in record { some = less 0 (length (key_text k)) h.1; graphic = h.0 }

key_few : (k : Key) → length (key_text k) ≤ 4
key_few k = at_most (length (key_text k)) 4 (key_printed k).2

-- a test that each byte passes if it passes another
all_weaker : (p q : ℕ → Bool) → ((b : ℕ) → p b ≡ true → q b ≡ true) → (bs : List ℕ) → list_all p bs ≡ true
    → list_all q bs ≡ true
all_weaker p q w [] h = refl
all_weaker p q w (b ∷ bs) h = let e = both (p b) (list_all p bs) h in rw (w b e.0, all_weaker p q w bs e.1) refl

each_byte : (p : ℕ → Bool) (P : ℕ → Type 0) → ((b : ℕ) → p b ≡ true → P b) → (bs : List ℕ) → list_all p bs ≡ true
    → AllByRecursion P bs
each_byte p P w [] h = tt
each_byte p P w (b ∷ bs) h = let e = both (p b) (list_all p bs) h in (w b e.0, each_byte p P w bs e.1)

name_byte : (b : ℕ) → is_name_byte b ≡ true → nat_le 33 b ≡ true
name_byte b h = grind (arith, nat_tests)

digit_byte : (b : ℕ) → is_ascii_digit b ≡ true → nat_le 33 b ≡ true
digit_byte b h = grind (arith, nat_tests)

not_blank : (b : ℕ) → nat_le 33 b ≡ true → is_blank b ≡ false
not_blank b h = grind (arith, nat_tests)

lower : (b : ℕ) → nat_le 33 b ≡ true → nat_le 32 b ≡ true
lower b h = grind (arith, nat_tests)

not_feed : (b : ℕ) → nat_le 32 b ≡ true → is_feed b ≡ false
not_feed b h = grind (arith, nat_tests)

not_return : (b : ℕ) → nat_le 32 b ≡ true → (b == 13) ≡ false
not_return b h = grind (arith, nat_tests)

some_name : (l : List ℕ) → begins_name l ≡ true → 0 < length l
some_name [] h = cc
some_name (b ∷ bs) h = omega arith

name_printed : (l : List ℕ) → is_name l ≡ true → IsPrinted l
name_printed l h =
    let a = both (nat_le (length l) 64 && begins_name l) (list_all is_name_byte l) h in
    let b = both (nat_le (length l) 64) (begins_name l) a.0 in
    record { some = some_name l b.1; graphic = all_weaker is_name_byte (nat_le 33) name_byte l a.1 }

name_few : (l : List ℕ) → is_name l ≡ true → length l ≤ 64
name_few l h =
    let a = both (nat_le (length l) 64 && begins_name l) (list_all is_name_byte l) h in
    at_most (length l) 64 (both (nat_le (length l) 64) (begins_name l) a.0).0

wide : (n : ℕ) → n ≤ 4294967296 → n < 2 ^ 64
wide n h = omega arith

decimal_printed : (n : ℕ) → n ≤ 4294967296 → IsPrinted (decimal n)
decimal_printed n h =
    record {
      some = (decimal_is_IsNumeral n (wide n h)).0.0;
      graphic = all_weaker is_ascii_digit (nat_le 33) digit_byte (decimal n) (digits_decimal own n (wide n h));
    }

decimal_few : (n : ℕ) → n ≤ 4294967296 → length (decimal n) ≤ 10
decimal_few n h = length-decimal-le 10 n (omega arith) (omega arith) (wide n h)

below : (n : ℕ) → pos n ≤ℤ pos 4294967295 → n ≤ 4294967296
below n h = omega (arith, ints)

above : (n : ℕ) → negsuc 4294967295 ≤ℤ negsuc n → suc n ≤ 4294967296
above n h = omega (arith, ints)

signed_printed : (z : ℤ) → negsuc 4294967295 ≤ℤ z → z ≤ℤ pos 4294967295 → IsPrinted (signed_decimal z)
signed_printed (pos n) low high = decimal_printed n (below n high)
signed_printed (negsuc n) low high =
    let d = decimal_printed (suc n) (above n low) in record { some = omega arith; graphic = d.graphic }

signed_few : (z : ℤ) → negsuc 4294967295 ≤ℤ z → z ≤ℤ pos 4294967295 → length (signed_decimal z) ≤ 64
signed_few (pos n) low high = let few = decimal_few n (below n high) in omega (arith, few)
signed_few (negsuc n) low high = let few = decimal_few (suc n) (above n low) in omega (arith, few)

number_printed : (n : ℕ) → n < 2 ^ 32 → IsPrinted (number_text n)
number_printed n h = signed_printed (signed n) (omega (arith, ints)) (omega (arith, ints))

number_few : (n : ℕ) → n < 2 ^ 32 → length (number_text n) ≤ 64
number_few n h = signed_few (signed n) (omega (arith, ints)) (omega (arith, ints))

number_form : (n : ℕ) → n < 2 ^ 32 → IsWordNumber (number_text n) n
number_form n h =
    record {
      value = signed n;
      number = printed_again (signed n) (omega (arith, ints)) (omega (arith, ints));
      under = omega (arith, ints);
      over = omega (arith, ints);
      word = of_z-to_z w32 n h;
    }

small_form : (k : ℕ) → k ≤ 4 → number_of (decimal k) ≡ Some (pos k)
small_form k h = printed_again (pos k) (omega (arith, ints)) (omega (arith, ints))

-- the printed words have the form
op_form : (o : Op) → IsOp o → IsArgument o (argument_words o)
op_form (op.Con n) h = (number_text n, number_form n h, refl)
op_form (op.Adl n) h = (number_text n, number_form n h, refl)
op_form (op.Adg s) h = (h, refl)
op_form op.Lod h = refl
op_form op.Sto h = refl
op_form (op.Bin o) h = refl
op_form (op.Un o) h = refl
op_form op.Dup h = refl
op_form op.Pop h = refl
op_form (op.Lab l) h = (h, refl)
op_form (op.Jmp l) h = (h, refl)
op_form (op.Br r l) h = (h, refl)
op_form (op.Arg k) h = (decimal k, small_form k (omega (arith, h)), h, refl)
op_form (op.Call f n) h = (decimal n, h.0, small_form n h.1, h.1, refl)
op_form op.Ret h = refl

-- words that are one line
record IsLine (ws : List (List ℕ)) : Type 0 where
  words : AllByRecursion IsPrinted ws
  short : length (join_with_byte 32 ws) ≤ 4096
  speaks : is_silent ws ≡ false

first_line : (w : List ℕ) → IsPrinted w → length w ≤ 4 → starts_with nat_eq w (codes "//") ≡ false → IsLine (w ∷ [])
first_line w h few plain = record { words = (h, tt); short = omega (arith, few); speaks = plain }

second_line : (w v : List ℕ) → IsPrinted w → length w ≤ 4 → starts_with nat_eq w (codes "//") ≡ false → IsPrinted v
    → length v ≤ 64 → IsLine (w ∷ v ∷ [])
second_line w v h few plain g small =
    let long : length (w ++ 32 ∷ v) ≡ length w + length (32 ∷ v) = length-append w (32 ∷ v) in
    record { words = (h, (g, tt)); short = omega (arith, few, small, long); speaks = plain }

third_line : (w v x : List ℕ) → IsPrinted w → length w ≤ 4 → starts_with nat_eq w (codes "//") ≡ false → IsPrinted v
    → length v ≤ 64 → IsPrinted x → length x ≤ 10 → IsLine (w ∷ v ∷ x ∷ [])
third_line w v x h few plain g small f tiny =
    let long : length (w ++ 32 ∷ (v ++ 32 ∷ x)) ≡ length w + length (32 ∷ (v ++ 32 ∷ x)) =
    length-append w (32 ∷ (v ++ 32 ∷ x)) in
    let more : length (v ++ 32 ∷ x) ≡ length v + length (32 ∷ x) = length-append v (32 ∷ x) in
    record { words = (h, (g, (f, tt))); short = omega (arith, few, small, tiny, long, more); speaks = plain }

alone_line : (k : Key) → IsLine (key_text k ∷ [])
alone_line k = first_line (key_text k) (key_is_printed k) (key_few k) (key_facts k).2

with_line : (k : Key) (v : List ℕ) → IsPrinted v → length v ≤ 64 → IsLine (key_text k ∷ v ∷ [])
with_line k v h small = second_line (key_text k) v (key_is_printed k) (key_few k) (key_facts k).2 h small

op_line : (o : Op) → IsOp o → IsLine (op_words o)
op_line (op.Con n) h = with_line key.Con (number_text n) (number_printed n h) (number_few n h)
op_line (op.Adl n) h = with_line key.Adl (number_text n) (number_printed n h) (number_few n h)
op_line (op.Adg s) h = with_line key.Adg s (name_printed s h) (name_few s h)
op_line op.Lod h = alone_line key.Lod
op_line op.Sto h = alone_line key.Sto
op_line (op.Bin o) h = alone_line (key.Bin o)
op_line (op.Un o) h = alone_line (key.Un o)
op_line op.Dup h = alone_line key.Dup
op_line op.Pop h = alone_line key.Pop
op_line (op.Lab l) h = with_line key.Lab l (name_printed l h) (name_few l h)
op_line (op.Jmp l) h = with_line key.Jmp l (name_printed l h) (name_few l h)
op_line (op.Br r l) h = with_line (key.Br r) l (name_printed l h) (name_few l h)
op_line (op.Arg k) h =
    (let few = decimal_few k (omega (arith, h)) in
    with_line key.Arg (decimal k) (decimal_printed k (omega (arith, h))) (omega (arith, few)))
op_line (op.Call f n) h =
    let small = h.1 in
    third_line (key_text key.Call) f (decimal n) (key_is_printed key.Call) (key_few key.Call) (key_facts key.Call).2
    (name_printed f h.0) (name_few f h.0) (decimal_printed n (omega (arith, small)))
    (decimal_few n (omega (arith, small)))
op_line op.Ret h = alone_line key.Ret

op_lines : (os : List Op) → AllByRecursion IsOp os → AllByRecursion IsLine (map op_words os ++ (codes "end" ∷ []) ∷ [])
op_lines [] h = (first_line (codes "end") (record { some = omega arith; graphic = refl }) (omega arith) refl, tt)
op_lines (o ∷ os) h = (op_line o h.0, op_lines os h.1)

unit_lines : (u : StackUnit) → IsUnit u → AllByRecursion IsLine (unit_words u)
unit_lines u h = (
  second_line (codes "unit") u.name (record { some = omega arith; graphic = refl }) (omega arith) refl
      (name_printed u.name h.name) (name_few u.name h.name),
  op_lines u.ops (recursion_from_All IsOp u.ops h.each),
)

-- the bytes of a line
line_low : (ws : List (List ℕ)) → AllByRecursion IsPrinted ws → list_all (nat_le 32) (join_with_byte 32 ws) ≡ true
line_low [] h = refl
line_low (w ∷ []) h = let g = h.0 in all_weaker (nat_le 33) (nat_le 32) lower w g.graphic
line_low (w ∷ v ∷ vs) h =
    let g = h.0 in
    rw (
      list_all-append (nat_le 32) w (32 ∷ join_with_byte 32 (v ∷ vs)),
      all_weaker (nat_le 33) (nat_le 32) lower w g.graphic,
      line_low (v ∷ vs) h.1,
    ) refl

no_return : (l : List ℕ) → All (λ b. (b == 13) ≡ false) l → strip_carriage_return l ≡ l
no_return [] h = refl
no_return (b ∷ bs) h =
    let e : (slice_index (b ∷ bs) (length (b ∷ bs) - 1) == 13) ≡ false = h (length (b ∷ bs) - 1) 0 (omega arith) in
    rw e refl

solid_words : (ws : List (List ℕ)) → AllByRecursion IsPrinted ws → AllByRecursion IsSolid ws
solid_words [] h = tt
solid_words (w ∷ ws) h =
    let g = h.0 in (
      record { some = g.some; solid = each_byte (nat_le 33) (λ b. is_blank b ≡ false) not_blank w g.graphic },
      solid_words ws h.1,
    )

record Some_part (parts : List (List ℕ)) : Type 0 where
  first : List ℕ
  more : List (List ℕ)
  is : parts ≡ first ∷ more

cut_line : (ws : List (List ℕ)) (rest : List ℕ) → IsLine ws
    → slice_split is_feed (line_text ws ++ rest) ≡ join_with_byte 32 ws ∷ slice_split is_feed rest
cut_line ws rest h =
    rw (append_assoc (join_with_byte 32 ws) (10 ∷ []) rest)
    (slice_split_at is_feed (join_with_byte 32 ws) 10 rest
    (All-from_recursion _ (join_with_byte 32 ws)
    (each_byte (nat_le 32) (λ b. is_feed b ≡ false) not_feed (join_with_byte 32 ws) (line_low ws h.words))) refl)

some_part : (ws : List (List (List ℕ))) → AllByRecursion IsLine ws
    → Some_part (slice_split is_feed (flat_map line_text ws))
some_part [] h = record { first = []; more = []; is = refl }
some_part (w ∷ ws) h =
    record {
      first = join_with_byte 32 w;
      more = slice_split is_feed (flat_map line_text ws);
      is = cut_line w (flat_map line_text ws) h.0;
    }

two_parts : (n o : ℕ) (x : List ℕ) (parts : List (List ℕ)) → Some_part parts → strip_carriage_return x ≡ x
    → lines_at n o (x ∷ parts)
    ≡ record { number = n; bytes = x; after = o + length x + 1 } ∷ lines_at (n + 1) (o + length x + 1) parts
two_parts n o x parts p plain =
    rw p.is (ap
    (λ (b : List ℕ). record { number = n; bytes = b; after = o + length x + 1 }
    ∷ lines_at (n + 1) (o + length x + 1) (p.first ∷ p.more)) plain)

-- printed lines are these lines
next_line : (n o : ℕ) (w : List (List ℕ)) (ws : List (List (List ℕ))) → IsLine w → AllByRecursion IsLine ws
    → lines_from n o (flat_map line_text (w ∷ ws))
    ≡ record { number = n; bytes = join_with_byte 32 w; after = o + length (join_with_byte 32 w) + 1 }
    ∷ lines_from (n + 1) (o + length (join_with_byte 32 w) + 1) (flat_map line_text ws)
unfolding lines_from
next_line n o w ws h hs =
    ap (lines_at n o) (cut_line w (flat_map line_text ws) h)
    ∙ two_parts n o (join_with_byte 32 w) (slice_split is_feed (flat_map line_text ws)) (some_part ws hs)
    (no_return (join_with_byte 32 w)
    (All-from_recursion _ (join_with_byte 32 w)
    (each_byte (nat_le 32) (λ b. (b == 13) ≡ false) not_return (join_with_byte 32 w) (line_low w h.words))))

no_line : (n o : ℕ) → lines_from n o [] ≡ []
unfolding lines_from
no_line n o = refl

-- what printed lines say
record Says (ls : List Numbered) (ws : List (List (List ℕ))) : Type 0 where
  said_is : said ls ≡ ws
  short : All IsShort ls

says_more : (l : Numbered) (w : List (List ℕ)) (ls : List Numbered) (ws : List (List (List ℕ))) → texts_of l ≡ w
    → is_silent w ≡ false → IsShort l → Says ls ws → Says (l ∷ ls) (w ∷ ws)
says_more l w ls ws text speaks short h = record {
  said_is =
      rw (subst (λ (x : List (List ℕ)). is_silent x ≡ false) (sym text) speaks)
      (ap (λ (x : List (List ℕ)). x ∷ said ls) text ∙ ap (λ (x : List (List (List ℕ))). w ∷ x) h.said_is);
  short = All-cons IsShort l ls short h.short;
}

lines_say : (ws : List (List (List ℕ))) (n o : ℕ) → AllByRecursion IsLine ws
    → Says (lines_from n o (flat_map line_text ws)) ws
lines_say [] n o h = rw (no_line n o) (record { said_is = refl; short = All-nil IsShort })
lines_say (w ∷ ws) n o h =
    let g = h.0 in
    subst (λ (ls : List Numbered). Says ls (w ∷ ws)) (sym (next_line n o w ws g h.1))
    (says_more _ w _ ws (words_again w (solid_words w g.words)) g.speaks g.short
    (lines_say ws (n + 1) (o + length (join_with_byte 32 w) + 1) h.1))

op_forms : (os : List Op) → AllByRecursion IsOp os → AllZip IsOpLine (map op_words os) os
op_forms [] h = tt
op_forms (o ∷ os) h = ((argument_words o, op_form o h.0, refl), op_forms os h.1)

-- the lines of a printed unit write it
unit_written : (u : StackUnit) (n o : ℕ) → IsUnit u → IsUnits (lines_from n o (unit_text u)) (u ∷ [])
unit_written u n o h =
    let says = lines_say (unit_words u) n o (unit_lines u h) in
    record {
      short = says.short;
      lines = (map op_words u.ops, [], says.said_is, op_forms u.ops (recursion_from_All IsOp u.ops h.each), refl);
      allowed = All-cons IsUnit u [] h (All-nil IsUnit);
      differ = λ i j d low high. absurd (omega (arith, low, high));
      few = omega arith;
    }

-- a printed unit is read as itself
pub printed_unit_again : (u : StackUnit) (n : ℕ) → IsUnit u → length (unit_text u) ≤ 4194304
    → units_behind (record { offset = 0; line = n }) (unit_text u) ≡ Ok (u ∷ [])
printed_unit_again u n h fits =
    within_is (unit_text u) _ fits ∙ units_again (lines_from n 0 (unit_text u)) _ (u ∷ []) (unit_written u n 0 h)
