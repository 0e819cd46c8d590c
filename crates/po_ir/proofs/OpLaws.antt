-- What is read as an operation has its form, and what has the form is read as it.
use Rattle.std.proofs.Common.{◌≡◌, ℕ, ◌≤◌, ◌<◌, ◌^◌, List, [], ◌∷◌, true, Ok, Err, Some, refl, ap, sym, ◌∙◌, subst}
use Rattle.std.proofs.Common.{map, arith}
use Rattle.std.specs.Prelude.{ℤ, pos, negsuc, ◌≤ℤ◌, unsigned_abs, int_le, ⊤}
use Rattle.std.proofs.lemmas.Int.{ints}
use Rattle.po_word.specs.Words.{word_of}
use Rattle.po_text.specs.Number.{number_of}
use Rattle.po_name.specs.Names.{is_name}
use Rattle.po_lines.specs.Words.{Placed}
use Rattle.po_lines.specs.Faults.{◌>>=◌}
use Rattle.po_lines.specs.Leaves.{name_in, number_in, word_number_in, small_number_in}
use Rattle.po_lines.specs.Forms.{no_more, first_word, rest_words, name_alone, word_number_alone}
use Rattle.po_lines.proofs.Results.{bind_ok, ok_is, not_ok}
use Rattle.po_lines.proofs.NameLaws.{name_again, name_found}
use Rattle.po_lines.proofs.NumberLaws.{number_found}
use Rattle.po_lines.proofs.WordLaws.{bytes_of}
use Rattle.po_ir.specs.declared.unit.Op.{Op}
use Rattle.po_ir.specs.declared.unit.Op.TheVariants as op
use Rattle.po_ir.specs.declared.unit.Key.{Key}
use Rattle.po_ir.specs.declared.unit.Key.TheVariants as key
use Rattle.po_ir.specs.Ops.{key_of}
use Rattle.po_ir.specs.Lines.{arg_in_line, call_in_line, alone, op_in}
use Rattle.po_ir.specs.Units.{IsOp}
use Rattle.po_ir.specs.Grammar.{IsWordNumber, IsNumberAlone, IsNameAlone, IsArgument}

le_true : (a b : ℤ) → a ≤ℤ b → int_le a b ≡ true
le_true a b h = grind (arith, ints)

number_again : (low high z : ℤ) (w : Placed) → number_of w.bytes ≡ Some z → low ≤ℤ z → z ≤ℤ high
    → number_in low high w ≡ Ok z
unfolding number_in
number_again low high z w e under over = rw (e, le_true low z under, le_true z high over) refl

-- a number of a machine word
word_number_again : (w : Placed) (n : ℕ) → IsWordNumber w.bytes n → word_number_in w ≡ Ok n
unfolding word_number_in
word_number_again w n h =
    rw (number_again (negsuc 2147483647) (pos 4294967295) h.value w h.number h.under h.over) (ap Ok h.word)

word_number_found : (w : Placed) (n : ℕ) → word_number_in w ≡ Ok n → IsWordNumber w.bytes n
unfolding word_number_in
word_number_found w n e =
    let b = bind_ok (number_in (negsuc 2147483647) (pos 4294967295) w) (λ z. Ok (word_of z)) n e in
    let f = number_found (negsuc 2147483647) (pos 4294967295) b.0 w b.1 in
    record { value = b.0; number = f.number; under = f.under; over = f.over; word = ok_is b.2 }

-- a number from 0 on
small_number_again : (most n : ℕ) (w : Placed) → number_of w.bytes ≡ Some (pos n) → n ≤ most
    → small_number_in most w ≡ Ok n
unfolding small_number_in
small_number_again most n w e h =
    rw (number_again (pos 0) (pos most) (pos n) w e (omega (arith, ints)) (omega (arith, ints))) refl

small_parts : (most n : ℕ) (bytes : List ℕ) (z : ℤ) → number_of bytes ≡ Some z → pos 0 ≤ℤ z → z ≤ℤ pos most
    → unsigned_abs z ≡ n → (number_of bytes ≡ Some (pos n)) × (n ≤ most)
small_parts most n bytes (pos m) e under over abs = (e ∙ ap (λ (k : ℕ). Some (pos k)) abs, omega (arith, ints))
small_parts most n bytes (negsuc m) e under over abs = absurd (omega (arith, ints))

small_number_found : (most n : ℕ) (w : Placed) → small_number_in most w ≡ Ok n
    → (number_of w.bytes ≡ Some (pos n)) × (n ≤ most)
unfolding small_number_in
small_number_found most n w e =
    let b = bind_ok (number_in (pos 0) (pos most) w) (λ z. Ok (unsigned_abs z)) n e in
    let f = number_found (pos 0) (pos most) b.0 w b.1 in
    small_parts most n w.bytes b.0 f.number f.under f.over (ok_is b.2)

pub no_more_again : (ws : List Placed) → map bytes_of ws ≡ [] → no_more ws ≡ Ok tt
unfolding no_more
no_more_again [] e = refl
no_more_again (w ∷ ws) e = cc

pub no_more_found : (ws : List Placed) (r : ⊤) → no_more ws ≡ Ok r → map bytes_of ws ≡ []
unfolding no_more
no_more_found [] r e = refl
no_more_found (w ∷ ws) r e = absurd (not_ok e)

-- a number, and no further word
number_alone_again : (n : ℕ) (ws : List Placed) (end : ℕ) → IsNumberAlone n (map bytes_of ws)
    → word_number_alone ws end ≡ Ok n
unfolding word_number_alone first_word rest_words no_more
number_alone_again n [] end h = let e = h.2 in cc
number_alone_again n (w ∷ []) end h =
    let e : w.bytes ≡ h.0 = (let f = h.2 in cc) in
    rw (word_number_again w n (subst (λ (d : List ℕ). IsWordNumber d n) (sym e) h.1)) refl
number_alone_again n (w ∷ v ∷ ws) end h = let e = h.2 in cc

number_alone_found : (n : ℕ) (ws : List Placed) (end : ℕ) → word_number_alone ws end ≡ Ok n
    → IsNumberAlone n (map bytes_of ws)
unfolding word_number_alone first_word rest_words
number_alone_found n [] end e = absurd (not_ok e)
number_alone_found n (w ∷ ws) end e =
    let b = bind_ok (word_number_in w) (λ m. no_more ws >>= λ rest. Ok m) n e in
    let t = bind_ok (no_more ws) (λ rest. Ok b.0) n b.2 in (
      w.bytes,
      subst (λ (m : ℕ). IsWordNumber w.bytes m) (ok_is t.2) (word_number_found w b.0 b.1),
      ap (λ (r : List (List ℕ)). w.bytes ∷ r) (no_more_found ws t.0 t.1),
    )

-- a name, and no further word
name_is : (w : Placed) (l : List ℕ) → is_name l ≡ true → w.bytes ≡ l → name_in w ≡ Ok l
name_is w l h e =
    subst (λ (b : List ℕ). name_in w ≡ Ok b) e (name_again w (subst (λ (b : List ℕ). is_name b ≡ true) (sym e) h))

pub name_alone_again : (l : List ℕ) (ws : List Placed) (end : ℕ) → IsNameAlone l (map bytes_of ws)
    → name_alone ws end ≡ Ok l
unfolding name_alone first_word rest_words no_more
name_alone_again l [] end h = let e = h.1 in cc
name_alone_again l (w ∷ []) end h = let e : w.bytes ≡ l = (let f = h.1 in cc) in rw (name_is w l h.0 e) refl
name_alone_again l (w ∷ v ∷ ws) end h = let e = h.1 in cc

pub name_alone_found : (l : List ℕ) (ws : List Placed) (end : ℕ) → name_alone ws end ≡ Ok l
    → IsNameAlone l (map bytes_of ws)
unfolding name_alone first_word rest_words
name_alone_found l [] end e = absurd (not_ok e)
name_alone_found l (w ∷ ws) end e =
    let b = bind_ok (name_in w) (λ m. no_more ws >>= λ rest. Ok m) l e in
    let t = bind_ok (no_more ws) (λ rest. Ok b.0) l b.2 in
    let f = name_found w b.0 b.1 in
    let same : w.bytes ≡ l = f.1 ∙ ok_is t.2 in (
      subst (λ (m : List ℕ). is_name m ≡ true) same f.0,
      ap (λ (m : List ℕ). m ∷ map bytes_of ws) same ∙ ap (λ (r : List (List ℕ)). l ∷ r) (no_more_found ws t.0 t.1),
    )

alone_again : (o : Op) (ws : List Placed) → map bytes_of ws ≡ [] → alone o ws ≡ Ok o
unfolding alone
alone_again o ws e = rw (no_more_again ws e) refl

arg_again : (k : ℕ) (ws : List Placed) (end : ℕ) → IsArgument (op.Arg k) (map bytes_of ws) → arg_in_line ws end ≡ Ok k
unfolding arg_in_line first_word rest_words no_more
arg_again k [] end h = let e = h.3 in cc
arg_again k (w ∷ []) end h =
    let e : w.bytes ≡ h.0 = (let f = h.3 in cc) in
    rw (small_number_again 3 k w (ap number_of e ∙ h.1) h.2) refl
arg_again k (w ∷ v ∷ ws) end h = let e = h.3 in cc

call_again : (f : List ℕ) (n : ℕ) (ws : List Placed) (end : ℕ) → IsArgument (op.Call f n) (map bytes_of ws)
    → call_in_line ws end ≡ Ok (op.Call f n)
unfolding call_in_line first_word rest_words no_more
call_again f n [] end h = let e = h.4 in cc
call_again f n (w ∷ []) end h = let e = h.4 in cc
call_again f n (w ∷ v ∷ []) end h =
    let e : w.bytes ≡ f = (let g = h.4 in cc) in
    let d : v.bytes ≡ h.0 = (let g = h.4 in cc) in
    rw (name_is w f h.1 e, small_number_again 4 n v (ap number_of d ∙ h.2) h.3) refl
call_again f n (w ∷ v ∷ u ∷ ws) end h = let e = h.4 in cc

-- what has the form is read
pub op_again : (o : Op) (ws : List Placed) (end : ℕ) → IsArgument o (map bytes_of ws) → op_in (key_of o) ws end ≡ Ok o
unfolding op_in
op_again (op.Con n) ws end h = rw (number_alone_again n ws end h) refl
op_again (op.Adl n) ws end h = rw (number_alone_again n ws end h) refl
op_again (op.Adg s) ws end h = rw (name_alone_again s ws end h) refl
op_again op.Lod ws end h = alone_again op.Lod ws h
op_again op.Sto ws end h = alone_again op.Sto ws h
op_again (op.Bin o) ws end h = alone_again (op.Bin o) ws h
op_again (op.Un o) ws end h = alone_again (op.Un o) ws h
op_again op.Dup ws end h = alone_again op.Dup ws h
op_again op.Pop ws end h = alone_again op.Pop ws h
op_again (op.Lab l) ws end h = rw (name_alone_again l ws end h) refl
op_again (op.Jmp l) ws end h = rw (name_alone_again l ws end h) refl
op_again (op.Br r l) ws end h = rw (name_alone_again l ws end h) refl
op_again (op.Arg k) ws end h = rw (arg_again k ws end h) refl
op_again (op.Call f n) ws end h = call_again f n ws end h
op_again op.Ret ws end h = alone_again op.Ret ws h

-- the operation has this key, and these words behind it
abbrev Found : Key → List Placed → Op → Type 0
Found k ws o = (key_of o ≡ k) × IsArgument o (map bytes_of ws)

alone_found : (k : Key) (p : Op) (ws : List Placed) (o : Op) → (map bytes_of ws ≡ [] → Found k ws p)
    → alone p ws ≡ Ok o → Found k ws o
unfolding alone
alone_found k p ws o form e =
    let b = bind_ok (no_more ws) (λ r. Ok p) o e in
    subst (λ (q : Op). Found k ws q) (ok_is b.2) (form (no_more_found ws b.0 b.1))

arg_found : (ws : List Placed) (end : ℕ) (k : ℕ) → arg_in_line ws end ≡ Ok k → IsArgument (op.Arg k) (map bytes_of ws)
unfolding arg_in_line first_word rest_words
arg_found [] end k e = absurd (not_ok e)
arg_found (w ∷ ws) end k e =
    let b = bind_ok (small_number_in 3 w) (λ m. no_more ws >>= λ rest. Ok m) k e in
    let t = bind_ok (no_more ws) (λ rest. Ok b.0) k b.2 in
    let s = small_number_found 3 k w (b.1 ∙ t.2) in
    (w.bytes, s.0, s.1, ap (λ (r : List (List ℕ)). w.bytes ∷ r) (no_more_found ws t.0 t.1))

call_found : (ws : List Placed) (end : ℕ) (o : Op) → call_in_line ws end ≡ Ok o → Found key.Call ws o
unfolding call_in_line first_word rest_words
call_found [] end o e = absurd (not_ok e)
call_found (w ∷ []) end o e = let b = bind_ok (name_in w) (λ f. Err _) o e in absurd (not_ok b.2)
call_found (w ∷ v ∷ ws) end o e =
    let b = bind_ok (name_in w) (λ f. small_number_in 4 v >>= λ n. no_more ws >>= λ rest. Ok (op.Call f n)) o e in
    let c = bind_ok (small_number_in 4 v) (λ n. no_more ws >>= λ rest. Ok (op.Call b.0 n)) o b.2 in
    let t = bind_ok (no_more ws) (λ rest. Ok (op.Call b.0 c.0)) o c.2 in
    let f = name_found w b.0 b.1 in
    let s = small_number_found 4 c.0 v c.1 in
    subst (λ (q : Op). Found key.Call (w ∷ v ∷ ws) q) (ok_is t.2) (
      refl,
      (
        v.bytes,
        subst (λ (m : List ℕ). is_name m ≡ true) f.1 f.0,
        s.0,
        s.1,
        ap (λ (m : List ℕ). m ∷ v.bytes ∷ map bytes_of ws) f.1
            ∙ ap (λ (r : List (List ℕ)). b.0 ∷ v.bytes ∷ r) (no_more_found ws t.0 t.1),
      ),
    )

-- what is read as an operation has its form
pub op_found : (k : Key) (ws : List Placed) (end : ℕ) (o : Op) → op_in k ws end ≡ Ok o → Found k ws o
unfolding op_in
op_found key.Con ws end o e =
    let b = bind_ok (word_number_alone ws end) (λ n. Ok (op.Con n)) o e in
    subst (λ (q : Op). Found key.Con ws q) (ok_is b.2) (refl, number_alone_found b.0 ws end b.1)
op_found key.Adl ws end o e =
    let b = bind_ok (word_number_alone ws end) (λ n. Ok (op.Adl n)) o e in
    subst (λ (q : Op). Found key.Adl ws q) (ok_is b.2) (refl, number_alone_found b.0 ws end b.1)
op_found key.Adg ws end o e =
    let b = bind_ok (name_alone ws end) (λ n. Ok (op.Adg n)) o e in
    subst (λ (q : Op). Found key.Adg ws q) (ok_is b.2) (refl, name_alone_found b.0 ws end b.1)
op_found key.Lod ws end o e = alone_found key.Lod op.Lod ws o (λ h. (refl, h)) e
op_found key.Sto ws end o e = alone_found key.Sto op.Sto ws o (λ h. (refl, h)) e
op_found (key.Bin b) ws end o e = alone_found (key.Bin b) (op.Bin b) ws o (λ h. (refl, h)) e
op_found (key.Un u) ws end o e = alone_found (key.Un u) (op.Un u) ws o (λ h. (refl, h)) e
op_found key.Dup ws end o e = alone_found key.Dup op.Dup ws o (λ h. (refl, h)) e
op_found key.Pop ws end o e = alone_found key.Pop op.Pop ws o (λ h. (refl, h)) e
op_found key.Lab ws end o e =
    let b = bind_ok (name_alone ws end) (λ n. Ok (op.Lab n)) o e in
    subst (λ (q : Op). Found key.Lab ws q) (ok_is b.2) (refl, name_alone_found b.0 ws end b.1)
op_found key.Jmp ws end o e =
    let b = bind_ok (name_alone ws end) (λ n. Ok (op.Jmp n)) o e in
    subst (λ (q : Op). Found key.Jmp ws q) (ok_is b.2) (refl, name_alone_found b.0 ws end b.1)
op_found (key.Br r) ws end o e =
    let b = bind_ok (name_alone ws end) (λ n. Ok (op.Br r n)) o e in
    subst (λ (q : Op). Found (key.Br r) ws q) (ok_is b.2) (refl, name_alone_found b.0 ws end b.1)
op_found key.Arg ws end o e =
    let b = bind_ok (arg_in_line ws end) (λ n. Ok (op.Arg n)) o e in
    subst (λ (q : Op). Found key.Arg ws q) (ok_is b.2) (refl, arg_found ws end b.0 b.1)
op_found key.Call ws end o e = call_found ws end o e
op_found key.Ret ws end o e = alone_found key.Ret op.Ret ws o (λ h. (refl, h)) e

word_low : (z : ℤ) → negsuc 2147483647 ≤ℤ z → z ≤ℤ pos 4294967295 → word_of z < 2 ^ 32
word_low (pos n) low high = omega (arith, ints)
word_low (negsuc n) low high = omega (arith, ints)

number_low : (n : ℕ) (ws : List (List ℕ)) → IsNumberAlone n ws → n < 2 ^ 32
number_low n ws h = let g = h.1 in subst (λ (m : ℕ). m < 2 ^ 32) g.word (word_low g.value g.under g.over)

-- an operation that has the form is allowed
pub op_allowed : (o : Op) (ws : List (List ℕ)) → IsArgument o ws → IsOp o
op_allowed (op.Con n) ws h = number_low n ws h
op_allowed (op.Adl n) ws h = number_low n ws h
op_allowed (op.Adg s) ws h = h.0
op_allowed op.Lod ws h = tt
op_allowed op.Sto ws h = tt
op_allowed (op.Bin o) ws h = tt
op_allowed (op.Un o) ws h = tt
op_allowed op.Dup ws h = tt
op_allowed op.Pop ws h = tt
op_allowed (op.Lab l) ws h = h.0
op_allowed (op.Jmp l) ws h = h.0
op_allowed (op.Br r l) ws h = h.0
op_allowed (op.Arg k) ws h = h.2
op_allowed (op.Call f n) ws h = (h.1, h.3)
op_allowed op.Ret ws h = tt
