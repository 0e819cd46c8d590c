-- What is read of a term's parts stands there as its form says.
use Rattle.std.proofs.Common.{◌≡◌, ℕ, ◌+◌, ◌-◌, ◌<◌, ◌≤◌, ◌==◌, ◌&&◌, Bool, true, false, nat_le, List, [], ◌∷◌, ◌++◌}
use Rattle.std.proofs.Common.{take, drop, codes, refl, sym, ap, ◌∙◌, subst, arith, Option, Some, None, Ok, Err}
use Rattle.std.proofs.Common.{suc, ℤ, pos, negsuc, inl, inr, eqb-true, leb-true}
use Rattle.std.specs.Prelude.{cond, int_le}
use Rattle.std.specs.List.{list_all, prefix_len}
use Rattle.std.specs.Int.{w32}
use Rattle.std.specs.Cmp.Lexicographic.{same_text}
use Rattle.std.proofs.lemmas.Bool.{and_parts}
use Rattle.std.proofs.lemmas.Fmt.{decimal_digit}
use Rattle.std.proofs.lemmas.Int.{ints, to_z-of_z}
use Rattle.std.proofs.lemmas.List.{take-append-drop}
use Rattle.po_word.specs.Words.{word_of, signed}
use Rattle.po_text.specs.Words.{is_blank}
use Rattle.po_text.specs.Number.{number_of}
use Rattle.po_text.specs.declared.fault.Kind.TheVariants as kind
use Rattle.po_name.specs.Names.{is_digit, is_name_byte}
use Rattle.po_term.specs.declared.term.Reg.{Reg}
use Rattle.po_term.specs.declared.term.Reg.TheVariants.{Fp, Rv, Arg}
use Rattle.po_termtext.specs.TermText.{reg_text}
use Rattle.po_lines.specs.Words.{Placed}
use Rattle.po_lines.specs.Faults.{fault}
use Rattle.po_lines.specs.Leaves.{same, bounded, number_in, signed_number_in}
use Rattle.po_lines.proofs.Results.{chosen, bind_ok, ok_is, not_ok}
use Rattle.po_model.specs.declared.machine.Bounds.{Bounds}
use Rattle.po_model.specs.declared.machine.PatReg.{PatReg}
use Rattle.po_model.specs.declared.machine.PatTerm.{PatTerm}
use Rattle.po_model.specs.declared.machine.PatTerm.TheVariants as pat
use Rattle.po_model.specs.Patterns.{PatTree, pattern_of}
use Rattle.po_pattern.specs.declared.operands.Operands.{Operands}
use Rattle.po_pattern.specs.declared.operands.OperandKind.{OperandKind}
use Rattle.po_pattern.specs.declared.operands.OperandKind.TheVariants.{Register, Constant, Symbol}
use Rattle.po_pattern.specs.Rests.{Rest, Read, skip_blanks, begins, mark}
use Rattle.po_pattern.specs.Seen.{kind_of, may_be, is_new}
use Rattle.po_pattern.specs.Parts as parts
use Rattle.po_entry.specs.EntryText.{operand_text, pat_reg_text}
use Rattle.po_entry.specs.Writing as writing
use Rattle.po_entry.specs.Writing.{text, blanks}
use Rattle.po_pattern.proofs.Layers.{reg_tree, num_tree, const_tree, addr_tree}

-- the first byte passes
pub take_more : (p : ℕ → Bool) (b : ℕ) (bs : List ℕ) → p b ≡ true
    → take (prefix_len p (b ∷ bs)) (b ∷ bs) ≡ b ∷ take (prefix_len p bs) bs
take_more p b bs e = let more : 1 + prefix_len p bs ≡ suc (prefix_len p bs) = omega arith in rw (e, more) refl

pub drop_more : (p : ℕ → Bool) (b : ℕ) (bs : List ℕ) → p b ≡ true
    → drop (prefix_len p (b ∷ bs)) (b ∷ bs) ≡ drop (prefix_len p bs) bs
drop_more p b bs e = let more : 1 + prefix_len p bs ≡ suc (prefix_len p bs) = omega arith in rw (e, more) refl

-- it doesn't
pub drop_none : (p : ℕ → Bool) (b : ℕ) (bs : List ℕ) → p b ≡ false → drop (prefix_len p (b ∷ bs)) (b ∷ bs) ≡ b ∷ bs
drop_none p b bs e = rw e refl

-- the bytes that pass, up to the first that doesn't
pub all_first : (p : ℕ → Bool) (bs : List ℕ) → list_all p (take (prefix_len p bs) bs) ≡ true
all_first p [] = refl
all_first p (b ∷ bs) = by_first (p b) refl (all_first p bs)
  where
    by_first : (x : Bool) → p b ≡ x → list_all p (take (prefix_len p bs) bs) ≡ true
        → list_all p (take (prefix_len p (b ∷ bs)) (b ∷ bs)) ≡ true
    by_first true e more = ap (list_all p) (take_more p b bs e)
        ∙ (let both : list_all p (b ∷ take (prefix_len p bs) bs) ≡ true = rw (e, more) refl in both)
    by_first false e more = rw e refl

-- so many bytes, and what is left
pub cut : (n : ℕ) (bs : List ℕ) → bs ≡ take n bs ++ drop n bs
cut n bs = sym (take-append-drop n bs)

pub blanks_skipped : (r : Rest) → blanks r.bytes (skip_blanks r).bytes
unfolding skip_blanks
blanks_skipped r = (
  take (prefix_len is_blank r.bytes) r.bytes,
  all_first is_blank r.bytes,
  cut (prefix_len is_blank r.bytes) r.bytes,
)

begun : (byte : ℕ) (bs : List ℕ) → begins byte bs ≡ true → bs ≡ byte ∷ drop 1 bs
begun byte [] e = absurd (cc)
begun byte (b ∷ bs) e = ap (λ (x : ℕ). x ∷ bs) (eqb-true b byte e)

pub mark_written : (byte : ℕ) (r s : Rest) → mark byte r ≡ Ok s → text (byte ∷ []) r.bytes s.bytes
unfolding mark
mark_written byte r s e = elim (chosen (begins byte r.bytes) _ _ _ e) [
  | inl (h, is) ↦ subst (λ (t : Rest). r.bytes ≡ byte ∷ t.bytes) (ok_is is) (begun byte r.bytes h)
  | inr (h, is) ↦ absurd (not_ok is)
]

-- operands

by_digit : (byte b d k : ℕ) (ds : List ℕ) → b ≡ byte → is_digit d ≡ true → d - 48 ≡ k → b ∷ d ∷ ds
    ≡ operand_text (byte ∷ []) k ++ ds
by_digit byte b d k ds same digit back =
    let bounds = and_parts (nat_le 48 d) (nat_le d 57) digit in
    let low : 48 ≤ d = leb-true 48 d bounds.0 in
    let high : d ≤ 57 = leb-true d 57 bounds.1 in
    let is : d ≡ 48 + k = omega (arith, low, back) in
    ap (λ (x : ℕ). x ∷ d ∷ ds) same ∙ ap (λ (x : ℕ). byte ∷ x ∷ ds) is
    ∙ ap (λ (w : List ℕ). byte ∷ (w ++ ds)) (sym (decimal_digit k (omega (arith, high, back))))

digit_written : (byte : ℕ) (bs : List ℕ) (k : ℕ) → parts.digit_behind byte bs ≡ Some k → bs
    ≡ operand_text (byte ∷ []) k ++ drop 2 bs
digit_written byte [] k e = absurd (cc)
digit_written byte (b ∷ []) k e = absurd (cc)
digit_written byte (b ∷ d ∷ ds) k e = elim (chosen (b == byte) _ _ _ e) [
  | inl (h, is) ↦ elim (chosen (is_digit d) _ _ _ is) [
    | inl (g, at) ↦ (let back : d - 48 ≡ k = cc in by_digit byte b d k ds (eqb-true b byte h) g back)
    | inr (g, at) ↦ absurd (cc)
  ]
  | inr (h, is) ↦ absurd (cc)
]

operand_by : (o : OperandKind) (r : Rest) (seen : Operands) (x : Read ℕ) (found : Option ℕ)
    → parts.digit_behind (parts.mark_of o) r.bytes ≡ found → parts.operand_with o r seen found ≡ Ok x
    → text (operand_text (parts.mark_of o ∷ []) x.value) r.bytes x.rest.bytes
operand_by o r seen x None h e = absurd (not_ok e)
operand_by o r seen x (Some k) h e = elim (chosen (may_be o (kind_of seen k)) _ _ _ e) [
  | inl (m, is) ↦ subst (λ (y : Read ℕ). text (operand_text (parts.mark_of o ∷ []) y.value) r.bytes y.rest.bytes)
      (ok_is is) (digit_written (parts.mark_of o) r.bytes k h)
  | inr (m, is) ↦ absurd (not_ok is)
]

pub operand_written : (o : OperandKind) (r : Rest) (seen : Operands) (x : Read ℕ) → parts.operand o r seen ≡ Ok x
    → text (operand_text (parts.mark_of o ∷ []) x.value) r.bytes x.rest.bytes
unfolding parts.operand
operand_written o r seen x e = operand_by o r seen x (parts.digit_behind (parts.mark_of o) r.bytes) refl e

-- numbers

pub record IsWord (bytes : List ℕ) (z : ℤ) : Type 0 where
  pub is : number_of bytes ≡ Some z
  pub low : int_le (negsuc 2147483647) z ≡ true
  pub high : int_le z (pos 2147483647) ≡ true

number_by : (column : ℕ) (bytes : List ℕ) (found : Option ℤ) (z : ℤ) → number_of bytes ≡ found
    → bounded (negsuc 2147483647) (pos 2147483647) column found ≡ Ok z → IsWord bytes z
number_by column bytes None z f e = absurd (not_ok e)
number_by column bytes (Some n) z f e =
    elim (chosen (int_le (negsuc 2147483647) n && int_le n (pos 2147483647)) _ _ _ e) [
      | inl (h, is) ↦ (let both = and_parts (int_le (negsuc 2147483647) n) (int_le n (pos 2147483647)) h in
          subst (λ (y : ℤ). IsWord bytes y) (ok_is is) (record { is = f; low = both.0; high = both.1 }))
      | inr (h, is) ↦ absurd (not_ok is)
    ]

word_by : (w : Placed) (z : ℤ) → signed_number_in w ≡ Ok z → IsWord w.bytes z
unfolding signed_number_in number_in
word_by w z e = number_by w.column w.bytes (number_of w.bytes) z refl e

number_at_by : (r : Rest) (n : ℕ) (bs : List ℕ) (z : ℤ) → parts.number_with r n bs ≡ Ok z → IsWord (take n bs) z
number_at_by r n [] z e = absurd (not_ok e)
number_at_by r n (b ∷ bs) z e = word_by (record { column = r.column; bytes = take n (b ∷ bs) }) z e

pub record NumberHere (r : Rest) (x : Read ℤ) : Type 0 where
  pub written : writing.number x.value r.bytes x.rest.bytes
  pub low : int_le (negsuc 2147483647) x.value ≡ true
  pub high : int_le x.value (pos 2147483647) ≡ true

pub number_written : (r : Rest) (seen : Operands) (x : Read ℤ) → parts.number r seen ≡ Ok x → NumberHere r x
unfolding parts.number parts.number_at
number_written r seen x e =
    let n = parts.number_length r.bytes in
    let p = bind_ok (parts.number_at r n) _ x e in
    let word = number_at_by r n r.bytes p.0 p.1 in
    subst (λ (y : Read ℤ). NumberHere r y) (ok_is p.2)
    (record { written = (take n r.bytes, word.is, cut n r.bytes); low = word.low; high = word.high })

signed_again : (z : ℤ) → int_le (negsuc 2147483647) z ≡ true → int_le z (pos 2147483647) ≡ true
    → signed (word_of z) ≡ z
signed_again z low high = to_z-of_z w32 z (grind (arith, ints))

-- a range

range_written : (r : Rest) (seen : Operands) (x : Read (Option Bounds)) → parts.range (skip_blanks r) seen ≡ Ok x
    → writing.range x.value r.bytes x.rest.bytes
unfolding parts.range
range_written r seen x e =
    let p = bind_ok (mark 91 (skip_blanks r)) _ x e in
    let q = bind_ok (parts.number (skip_blanks p.0) seen) _ x p.2 in
    let s = bind_ok (mark 44 (skip_blanks q.0.rest)) _ x q.2 in
    let t = bind_ok (parts.number (skip_blanks s.0) seen) _ x s.2 in
    let u = bind_ok (parts.in_order (skip_blanks r).column q.0.value t.0.value) _ x t.2 in
    let v = bind_ok (mark 93 (skip_blanks t.0.rest)) _ x u.2 in
    let low = number_written (skip_blanks p.0) seen q.0 q.1 in
    let high = number_written (skip_blanks s.0) seen t.0 t.1 in
    subst (λ (y : Read (Option Bounds)). writing.range y.value r.bytes y.rest.bytes) (ok_is v.2) (
      (skip_blanks r).bytes,
      blanks_skipped r,
      (
        p.0.bytes,
        mark_written 91 (skip_blanks r) p.0 p.1,
        (
          (skip_blanks p.0).bytes,
          blanks_skipped p.0,
          (
            q.0.rest.bytes,
            low.written,
            (
              (skip_blanks q.0.rest).bytes,
              blanks_skipped q.0.rest,
              (
                s.0.bytes,
                mark_written 44 (skip_blanks q.0.rest) s.0 s.1,
                (
                  (skip_blanks s.0).bytes,
                  blanks_skipped s.0,
                  (
                    t.0.rest.bytes,
                    high.written,
                    (
                      (skip_blanks t.0.rest).bytes,
                      blanks_skipped t.0.rest,
                      mark_written 93 (skip_blanks t.0.rest) v.0 v.1,
                    ),
                  ),
                ),
              ),
            ),
          ),
        ),
      ),
    )

range_if_new : (column : ℕ) (new : Bool) (r : Rest) (seen : Operands) (x : Read (Option Bounds))
    → cond new (parts.range (skip_blanks r) seen) (Err (fault column kind.ListForm)) ≡ Ok x
    → writing.range x.value r.bytes x.rest.bytes
range_if_new column true r seen x e = range_written r seen x e
range_if_new column false r seen x e = absurd (not_ok e)

range_behind_written : (column : ℕ) (new : Bool) (r : Rest) (seen : Operands) (x : Read (Option Bounds))
    → parts.range_behind column new r seen ≡ Ok x → writing.range x.value r.bytes x.rest.bytes
unfolding parts.range_behind
range_behind_written column new r seen x e = elim (chosen (begins 91 (skip_blanks r).bytes) _ _ _ e) [
  | inl (h, is) ↦ range_if_new column new r seen x is
  | inr (h, is) ↦ subst (λ (y : Read (Option Bounds)). writing.range y.value r.bytes y.rest.bytes) (ok_is is) refl
]

-- terms without terms of their own

abbrev pub TermAt : PatTerm → List ℕ → List ℕ → Type 0
TermAt t from to = writing.term (pattern_of t) from to

leaf_at : (t : PatTerm) (u : PatTree) (from to : List ℕ) → pattern_of t ≡ u → writing.term u from to
    → TermAt t from to
leaf_at t u from to e h = subst (λ (v : PatTree). writing.term v from to) (sym e) h

pub constant_written : (r : Rest) (seen : Operands) (x : Read PatTerm) → parts.constant r seen ≡ Ok x
    → TermAt x.value r.bytes x.rest.bytes
unfolding parts.constant
constant_written r seen x e =
    let p = bind_ok (parts.operand Constant r seen) _ x e in
    let q = bind_ok (parts.range_behind r.column (is_new (kind_of seen p.0.value)) p.0.rest p.0.seen) _ x p.2 in
    subst (λ (y : Read PatTerm). TermAt y.value r.bytes y.rest.bytes) (ok_is q.2)
    (leaf_at _ _ r.bytes q.0.rest.bytes (const_tree p.0.value q.0.value) (
      p.0.rest.bytes,
      operand_written Constant r seen p.0 p.1,
      range_behind_written r.column (is_new (kind_of seen p.0.value)) p.0.rest p.0.seen q.0 q.1,
    ))

pub symbol_written : (r : Rest) (seen : Operands) (x : Read PatTerm) → parts.symbol_address r seen ≡ Ok x
    → TermAt x.value r.bytes x.rest.bytes
unfolding parts.symbol_address
symbol_written r seen x e =
    let p = bind_ok (parts.operand Symbol r seen) _ x e in
    subst (λ (y : Read PatTerm). TermAt y.value r.bytes y.rest.bytes) (ok_is p.2)
    (leaf_at _ _ r.bytes p.0.rest.bytes (addr_tree p.0.value) (operand_written Symbol r seen p.0 p.1))

pub numeral_written : (r : Rest) (seen : Operands) (x : Read PatTerm) → parts.numeral r seen ≡ Ok x
    → TermAt x.value r.bytes x.rest.bytes
unfolding parts.numeral
numeral_written r seen x e =
    let p = bind_ok (parts.number r seen) _ x e in
    let here = number_written r seen p.0 p.1 in
    subst (λ (y : Read PatTerm). TermAt y.value r.bytes y.rest.bytes) (ok_is p.2)
    (leaf_at _ _ r.bytes p.0.rest.bytes (num_tree (word_of p.0.value))
    (subst (λ (z : ℤ). writing.number z r.bytes p.0.rest.bytes)
    (sym (signed_again p.0.value here.low here.high)) here.written))

-- registers

abbrev pub RegAt : PatReg → List ℕ → List ℕ → Type 0
RegAt x from to = text (pat_reg_text x) from to

any_written : (r : Rest) (seen : Operands) (x : Read PatReg) → parts.any_register r seen ≡ Ok x
    → RegAt x.value r.bytes x.rest.bytes
unfolding parts.any_register
any_written r seen x e =
    let p = bind_ok (parts.operand Register r seen) _ x e in
    subst (λ (y : Read PatReg). RegAt y.value r.bytes y.rest.bytes) (ok_is p.2)
    (operand_written Register r seen p.0 p.1)

arg_text : (n : ℕ) → n < 10 → codes "arg" ++ (48 + n) ∷ [] ≡ reg_text (Arg n)
arg_text n h = ap (λ (w : List ℕ). codes "arg" ++ w) (sym (decimal_digit n h))

this_or : (name word : List ℕ) (s r : Reg) (other : Option Reg) → cond (same name word) (Some s) other ≡ Some r
    → word ≡ reg_text s → (other ≡ Some r → name ≡ reg_text r) → name ≡ reg_text r
this_or name word s r other e h k = elim (chosen (same name word) _ _ _ e) [
  | inl (g, is) ↦ (let here : s ≡ r = cc in same_text name word (sym g) ∙ h ∙ ap reg_text here)
  | inr (g, is) ↦ k is
]

fixed_text : (name : List ℕ) (r : Reg) → parts.fixed_of name ≡ Some r → name ≡ reg_text r
fixed_text name r e =
    this_or name (codes "fp") Fp r _ e refl (λ f.
    this_or name (codes "rv") Rv r _ f refl (λ g.
    this_or name (codes "arg0") (Arg 0) r _ g (arg_text 0 (omega arith)) (λ h.
    this_or name (codes "arg1") (Arg 1) r _ h (arg_text 1 (omega arith)) (λ i.
    this_or name (codes "arg2") (Arg 2) r _ i (arg_text 2 (omega arith)) (λ j.
    this_or name (codes "arg3") (Arg 3) r None j (arg_text 3 (omega arith)) (λ k. absurd (cc)))))))

-- the bytes of a name, and what is left
pub named : (n : ℕ) (bs name : List ℕ) → take n bs ≡ name → text name bs (drop n bs)
named n bs name e = cut n bs ∙ ap (λ (w : List ℕ). w ++ drop n bs) e

fixed_by : (r : Rest) (seen : Operands) (x : Read PatReg) (found : Option Reg)
    → parts.fixed_of (parts.name_here r) ≡ found → parts.fixed_with r seen found ≡ Ok x
    → RegAt x.value r.bytes x.rest.bytes
fixed_by r seen x None h e = absurd (not_ok e)
fixed_by r seen x (Some s) h e = subst (λ (y : Read PatReg). RegAt y.value r.bytes y.rest.bytes) (ok_is e)
    (named (prefix_len is_name_byte r.bytes) r.bytes (reg_text s) (fixed_text (parts.name_here r) s h))

pub fixed_written : (r : Rest) (seen : Operands) (x : Read PatReg) → parts.fixed_register r seen ≡ Ok x
    → RegAt x.value r.bytes x.rest.bytes
unfolding parts.fixed_register
fixed_written r seen x e = fixed_by r seen x (parts.fixed_of (parts.name_here r)) refl e

pub register_written : (r : Rest) (seen : Operands) (x : Read PatReg) → parts.register r seen ≡ Ok x
    → RegAt x.value r.bytes x.rest.bytes
unfolding parts.register
register_written r seen x e = elim (chosen (begins 37 r.bytes) _ _ _ e) [
  | inl (h, is) ↦ any_written r seen x is
  | inr (h, is) ↦ fixed_written r seen x is
]

-- a register as a term
pub reg_leaf : (x : PatReg) (from to : List ℕ) → RegAt x from to → TermAt (pat.Reg x) from to
reg_leaf x from to h = leaf_at (pat.Reg x) _ from to (reg_tree x) h

pub any_leaf : (r : Rest) (seen : Operands) (x : Read PatReg) → parts.any_register r seen ≡ Ok x
    → TermAt (pat.Reg x.value) r.bytes x.rest.bytes
any_leaf r seen x e = reg_leaf x.value r.bytes x.rest.bytes (any_written r seen x e)
