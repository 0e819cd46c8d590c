-- A printed head line has its words.
use Rattle.std.proofs.Common.{◌≡◌, ℕ, ◌<◌, ◌≤◌, List, [], ◌∷◌, ◌++◌, Bool, true, false, refl, map, length, arith, ◌⊎◌}
use Rattle.std.proofs.Common.{inl, inr}
use Rattle.std.specs.Prelude.{nat_le, ◌==◌, ◌&&◌, ◌||◌}
use Rattle.std.specs.List.{AllByRecursion, list_all, join_with_byte}
use Rattle.std.proofs.lemmas.Bool.{false≢true}
use Rattle.std.proofs.lemmas.Bool.Decides.{nat_tests}
use Rattle.po_text.specs.Words.{is_blank}
use Rattle.po_name.specs.Names.{is_digit, is_name_byte, begins_name, is_name}
use Rattle.po_lines.specs.Words.{words_in}
use Rattle.po_lines.proofs.WordLaws.{IsSolid, bytes_of, words_again}
use Rattle.po_mdread.specs.MachineText.{head_text}
use Rattle.po_mdread.proofs.NameLaws.{AreNames}
use Rattle.po_mdread.proofs.PrintedLines.{IsPlain}

both : (a b : Bool) → (a && b) ≡ true → (a ≡ true) × (b ≡ true)
both true b e = (refl, e)
both false b e = cc

one_of : (a b : Bool) → (a || b) ≡ true → (a ≡ true) ⊎ (b ≡ true)
one_of true b e = inl refl
one_of false b e = inr e

low_le : (a b c : ℕ) → nat_le a b ≡ true → 48 ≤ a → 48 ≤ b
low_le a b c h g = grind (arith, nat_tests)

low_eq : (b : ℕ) → (b == 95) ≡ true → 48 ≤ b
low_eq b h = grind (arith, nat_tests)

low_byte : (b : ℕ) → is_name_byte b ≡ true → 48 ≤ b
low_byte b h = elim (one_of _ (b == 95) h) [
  | inl h1 ↦ elim (one_of _ (is_digit b) h1) [
    | inl h2 ↦ elim (one_of _ (nat_le 65 b && nat_le b 90) h2) [
      | inl h3 ↦ low_le 97 b 0 (both (nat_le 97 b) (nat_le b 122) h3).0 (omega arith)
      | inr h3 ↦ low_le 65 b 0 (both (nat_le 65 b) (nat_le b 90) h3).0 (omega arith)
    ]
    | inr h2 ↦ low_le 48 b 0 (both (nat_le 48 b) (nat_le b 57) h2).0 (omega arith)
  ]
  | inr h1 ↦ low_eq b h1
]

no_blank : (b : ℕ) → 48 ≤ b → is_blank b ≡ false
no_blank b h = grind (arith, nat_tests)

solid_bytes : (bs : List ℕ) → list_all is_name_byte bs ≡ true → AllByRecursion (λ b. is_blank b ≡ false) bs
solid_bytes [] h = tt
solid_bytes (b ∷ bs) h = let p = both (is_name_byte b) (list_all is_name_byte bs) h in
    (no_blank b (low_byte b p.0), solid_bytes bs p.1)

plain_bytes : (bs : List ℕ) → list_all is_name_byte bs ≡ true → IsPlain bs
plain_bytes [] h = tt
plain_bytes (b ∷ bs) h =
    let p = both (is_name_byte b) (list_all is_name_byte bs) h in
    let low = low_byte b p.0 in
    (omega arith, plain_bytes bs p.1)

some_bytes : (bs : List ℕ) → begins_name bs ≡ true → 0 < length bs
some_bytes [] h = absurd (false≢true h)
some_bytes (b ∷ bs) h = omega arith

pub solid_name : (n : List ℕ) → is_name n ≡ true → IsSolid n
solid_name n h =
    let p = both (nat_le (length n) 64 && begins_name n) (list_all is_name_byte n) h in
    let q = both (nat_le (length n) 64) (begins_name n) p.0 in
    record { some = some_bytes n q.1; solid = solid_bytes n p.1 }

pub plain_name : (n : List ℕ) → is_name n ≡ true → IsPlain n
plain_name n h = plain_bytes n (both (nat_le (length n) 64 && begins_name n) (list_all is_name_byte n) h).1

solid_names : (names : List (List ℕ)) → AreNames names → AllByRecursion IsSolid names
solid_names [] h = tt
solid_names (n ∷ ns) h = (solid_name n h.0, solid_names ns h.1)

plain_both : (xs ys : List ℕ) → IsPlain xs → IsPlain ys → IsPlain (xs ++ ys)
plain_both [] ys h g = g
plain_both (x ∷ xs) ys h g = (h.0, plain_both xs ys h.1 g)

pub head_plain : (text : List ℕ) (names : List (List ℕ)) → IsPlain text → AreNames names
    → IsPlain (head_text text names)
head_plain text [] h g = h
head_plain text (n ∷ ns) h g = plain_both text (32 ∷ join_with_byte 32 (n ∷ ns)) h
    (omega arith, head_plain n ns (plain_name n g.0) g.1)

-- the words of a printed head line
pub head_words : (text : List ℕ) (names : List (List ℕ)) → IsSolid text → AreNames names
    → map bytes_of (words_in (head_text text names)) ≡ text ∷ names
head_words text names h g = words_again (text ∷ names) (h, solid_names names g)
