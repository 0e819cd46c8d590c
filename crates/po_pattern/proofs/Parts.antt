-- What was read where a range, a constant or a register stands.
use Rattle.std.proofs.Common.{◌≡◌, ℕ, ◌^◌, ◌<◌, ◌≤◌, Bool, true, false, List, [], ◌∷◌, ◌++◌, length, take, refl, sym}
use Rattle.std.proofs.Common.{◌∙◌, subst, arith, zero, suc, Option, Some, None, Ok, Err, ℤ, pos, negsuc, inl, inr}
use Rattle.std.proofs.Common.{append-nil, leb-true}
use Rattle.std.specs.Prelude.{cond, int_le, codes, ⊤}
use Rattle.std.specs.List.{prefix_len}
use Rattle.std.proofs.lemmas.List.{length-drop}
use Rattle.po_word.specs.Words.{word_of}
use Rattle.po_text.specs.declared.fault.Kind.TheVariants as kind
use Rattle.po_name.specs.Names.{is_name_byte}
use Rattle.po_term.specs.declared.term.Reg.{Reg}
use Rattle.po_term.specs.declared.term.Reg.TheVariants.{Fp, Rv, Arg}
use Rattle.po_term.specs.Tree.{tree_size, tree_depth}
use Rattle.po_lines.specs.Faults.{fault}
use Rattle.po_lines.specs.Leaves.{same}
use Rattle.po_lines.proofs.Results.{chosen, bind_ok, ok_is, not_ok}
use Rattle.po_pattern.specs.declared.operands.Operands.{Operands}
use Rattle.po_pattern.specs.declared.operands.OperandKind.TheVariants.{Register, Constant, Symbol}
use Rattle.po_pattern.specs.Rests.{Rest, Read, skip_blanks, begins, mark}
use Rattle.po_pattern.specs.Seen.{kind_of, is_new}
use Rattle.po_pattern.specs.Parts.{operand, number, in_order, range, range_behind, any_register, constant}
use Rattle.po_pattern.specs.Parts.{symbol_address, numeral, name_here, fixed_of, fixed_with, fixed_register, register}
use Rattle.po_model.specs.declared.machine.Bounds.{Bounds}
use Rattle.po_model.specs.declared.machine.PatReg.{PatReg}
use Rattle.po_model.specs.declared.machine.PatTerm.{PatTerm}
use Rattle.po_model.specs.declared.machine.PatTerm.TheVariants as pat
use Rattle.po_model.specs.Patterns.{PatTree, pattern_of}
use Rattle.po_model.specs.Entries.{Place, place, OfNum, HasRange, has_range, IsPatReg, reg_places, tree_places}
use Rattle.po_model.specs.Entries.{HasPatNumbers}
use Rattle.po_pattern.proofs.Layers.{reg_tree, num_tree, const_tree, addr_tree}
use Rattle.po_pattern.proofs.Told.{Tells, told_more}
use Rattle.po_pattern.proofs.Leaves.{Came, not_longer, mark_shorter, operand_took, operand_came, number_took}
use Rattle.po_term.specs.Form.{IsFixed}

-- a range

pub record TookRange (fresh : Bool) (r : Rest) (seen : Operands) (x : Read (Option Bounds)) : Type 0 where
  pub fine : HasRange x.value
  pub new : has_range x.value ≡ true → fresh ≡ true
  pub noted : x.seen ≡ seen
  pub short : length x.rest.bytes ≤ length r.bytes

ordered : (column : ℕ) (low high : ℤ) (x : ⊤) → in_order column low high ≡ Ok x → int_le low high ≡ true
ordered column low high x e = elim (chosen (int_le low high) _ _ _ e)
    [ inl (h, is) ↦ h | inr (h, is) ↦ absurd (not_ok is) ]

range_took : (r : Rest) (seen : Operands) (x : Read (Option Bounds)) → range r seen ≡ Ok x → TookRange true r seen x
unfolding range
range_took r seen x e =
    let p = bind_ok (mark 91 r) _ x e in
    let q = bind_ok (number (skip_blanks p.0) seen) _ x p.2 in
    let s = bind_ok (mark 44 (skip_blanks q.0.rest)) _ x q.2 in
    let t = bind_ok (number (skip_blanks s.0) seen) _ x s.2 in
    let u = bind_ok (in_order r.column q.0.value t.0.value) _ x t.2 in
    let v = bind_ok (mark 93 (skip_blanks t.0.rest)) _ x u.2 in
    let low = number_took (skip_blanks p.0) seen q.0 q.1 in
    let high = number_took (skip_blanks s.0) seen t.0 t.1 in
    subst (λ (y : Read (Option Bounds)). TookRange true r seen y) (ok_is v.2) (record {
      fine = record { from = low.low; order = ordered r.column q.0.value t.0.value u.0 u.1; to = high.high };
      new = λ h. refl;
      noted = refl;
      short = omega (
        arith,
        mark_shorter 91 r p.0 p.1,
        not_longer p.0,
        low.shorter,
        not_longer q.0.rest,
        mark_shorter
            44 (skip_blanks q.0.rest) s.0 s.1,
        not_longer s.0,
        high.shorter,
        not_longer t.0.rest,
        mark_shorter 93
            (skip_blanks t.0.rest) v.0 v.1,
      );
    })

range_if_new : (column : ℕ) (new : Bool) (r : Rest) (seen : Operands) (x : Read (Option Bounds))
    → cond new (range r seen) (Err (fault column kind.ListForm)) ≡ Ok x → TookRange new r seen x
range_if_new column true r seen x e = range_took r seen x e
range_if_new column false r seen x e = absurd (not_ok e)

wider : (new : Bool) (r : Rest) (seen : Operands) (x : Read (Option Bounds)) → TookRange new (skip_blanks r) seen x
    → TookRange new r seen x
wider new r seen x h = record {
  fine = h.fine;
  new = h.new;
  noted = h.noted;
  short = omega (arith, h.short, not_longer r);
}

pub range_behind_took : (column : ℕ) (new : Bool) (r : Rest) (seen : Operands) (x : Read (Option Bounds))
    → range_behind column new r seen ≡ Ok x → TookRange new r seen x
unfolding range_behind
range_behind_took column new r seen x e = elim (chosen (begins 91 (skip_blanks r).bytes) _ _ _ e) [
  | inl (h, is) ↦ wider new r seen x (range_if_new column new (skip_blanks r) seen x is)
  | inr (h, is) ↦ subst (λ (y : Read (Option Bounds)). TookRange new r seen y) (ok_is is)
      (record { fine = tt; new = λ g. absurd (cc); noted = refl; short = omega arith })
]

-- a term without terms of its own

pub record IsLeafTree (t : PatTree) (qs : List Place) : Type 0 where
  pub is : qs ≡ tree_places t
  pub size : tree_size t ≡ 1
  pub depth : tree_depth t ≡ 1
  pub numbers : HasPatNumbers t

abbrev pub IsLeafAt : PatTerm → List Place → Type 0
IsLeafAt t qs = IsLeafTree (pattern_of t) qs

leaf_at : (t u : PatTree) (qs : List Place) → t ≡ u → IsLeafTree u qs → IsLeafTree t qs
leaf_at t u qs e h = subst (λ (v : PatTree). IsLeafTree v qs) (sym e) h

pub constant_came : (r : Rest) (seen : Operands) (x : Read PatTerm) → constant r seen ≡ Ok x
    → Came IsLeafAt r seen x
unfolding constant
constant_came r seen x e =
    let p = bind_ok (operand Constant r seen) _ x e in
    let q = bind_ok (range_behind r.column (is_new (kind_of seen p.0.value)) p.0.rest p.0.seen) _ x p.2 in
    let took = operand_took Constant r seen p.0 p.1 in
    let range = range_behind_took r.column (is_new (kind_of seen p.0.value)) p.0.rest p.0.seen q.0 q.1 in
    subst (λ (y : Read PatTerm). Came IsLeafAt r seen y) (ok_is q.2) (record {
      places = place p.0.value OfNum (has_range q.0.value) ∷ [];
      has = leaf_at _ _ _ (const_tree p.0.value q.0.value)
          (record {
            is = refl;
            size = refl;
            depth = refl;
            numbers = record {
              consts = (took.small, range.fine);
              leaves = tt;
            };
          });
      told = λ ps told. subst (λ (s : Operands). Tells s (ps ++ place p.0.value OfNum (has_range q.0.value) ∷ []))
          (sym (range.noted ∙ took.noted))
          (told_more seen Constant p.0.value (has_range q.0.value) ps took.small took.may range.new told);
      shorter = omega (arith, took.shorter, range.short);
    })

pub symbol_came : (r : Rest) (seen : Operands) (x : Read PatTerm) → symbol_address r seen ≡ Ok x
    → Came IsLeafAt r seen x
unfolding symbol_address
symbol_came r seen x e =
    let p = bind_ok (operand Symbol r seen) _ x e in
    let came = operand_came Symbol r seen p.0 p.1 in
    subst (λ (y : Read PatTerm). Came IsLeafAt r seen y) (ok_is p.2) (record {
      places = came.places;
      has = leaf_at _ _ _ (addr_tree p.0.value) (record {
        is = came.has.is;
        size = refl;
        depth = refl;
        numbers = record { consts = tt; leaves = came.has.small };
      });
      told = came.told;
      shorter = came.shorter;
    })

-- nothing was seen
pub none_more : (seen : Operands) (ps : List Place) → Tells seen ps → Tells seen (ps ++ [])
none_more seen ps h = subst (λ (qs : List Place). Tells seen qs) (sym (append-nil ps)) h

small_word : (z : ℤ) → int_le z (pos 2147483647) ≡ true → word_of z < 2 ^ 32
small_word (pos n) h = let low : n ≤ 2147483647 = leb-true n 2147483647 h in omega arith
small_word (negsuc n) h = omega arith

pub numeral_came : (r : Rest) (seen : Operands) (x : Read PatTerm) → numeral r seen ≡ Ok x → Came IsLeafAt r seen x
unfolding numeral
numeral_came r seen x e =
    let p = bind_ok (number r seen) _ x e in
    let took = number_took r seen p.0 p.1 in
    subst (λ (y : Read PatTerm). Came IsLeafAt r seen y) (ok_is p.2) (record {
      places = [];
      has = leaf_at _ _ _ (num_tree (word_of p.0.value))
          (record {
            is = refl;
            size = refl;
            depth = refl;
            numbers = record {
              consts = small_word p.0.value took.high;
              leaves = tt;
            };
          });
      told = λ ps told. subst (λ (s : Operands). Tells s (ps ++ [])) (sym took.noted) (none_more seen ps told);
      shorter = took.shorter;
    })

-- a register

pub record IsRegAt (x : PatReg) (qs : List Place) : Type 0 where
  pub is : qs ≡ reg_places x
  pub fine : IsPatReg x

any_came : (r : Rest) (seen : Operands) (x : Read PatReg) → any_register r seen ≡ Ok x → Came IsRegAt r seen x
unfolding any_register
any_came r seen x e =
    let p = bind_ok (operand Register r seen) _ x e in
    let came = operand_came Register r seen p.0 p.1 in
    subst (λ (y : Read PatReg). Came IsRegAt r seen y) (ok_is p.2) (record {
      places = came.places;
      has = record { is = came.has.is; fine = came.has.small };
      told = came.told;
      shorter = came.shorter;
    })

this_or : (b : Bool) (s r : Reg) (other : Option Reg) → cond b (Some s) other ≡ Some r → IsFixed s
    → (other ≡ Some r → IsFixed r) → IsFixed r
this_or true s r other e h k = let same : s ≡ r = cc in let P : Reg → Type 0 = λ x. IsFixed x in subst P same h
this_or false s r other e h k = k e

fixed_is : (name : List ℕ) (r : Reg) → fixed_of name ≡ Some r → IsFixed r
fixed_is name r e =
    this_or (same name (codes "fp")) Fp r _ e tt (λ f.
    this_or (same name (codes "rv")) Rv r _ f tt (λ g.
    this_or (same name (codes "arg0")) (Arg 0) r _ g (omega arith) (λ h.
    this_or (same name (codes "arg1")) (Arg 1) r _ h (omega arith) (λ i.
    this_or (same name (codes "arg2")) (Arg 2) r _ i (omega arith) (λ j.
    this_or (same name (codes "arg3")) (Arg 3) r None j (omega arith) (λ k. absurd (cc)))))))

named : (n : ℕ) (bs : List ℕ) (r : Reg) → fixed_of (take n bs) ≡ Some r → (0 < n) × (0 < length bs)
named zero bs r e = absurd (cc)
named (suc n) [] r e = absurd (cc)
named (suc n) (b ∷ bs) r e = (omega arith, omega arith)

fixed_found : (r : Rest) (seen : Operands) (x : Read PatReg) (found : Option Reg) → fixed_of (name_here r) ≡ found
    → fixed_with r seen found ≡ Ok x → Came IsRegAt r seen x
fixed_found r seen x None h e = absurd (not_ok e)
fixed_found r seen x (Some s) h e = let some = named (prefix_len is_name_byte r.bytes) r.bytes s h in
    subst (λ (y : Read PatReg). Came IsRegAt r seen y) (ok_is e) (record {
      places = [];
      has = record { is = refl; fine = fixed_is (name_here r) s h };
      told = none_more seen;
      shorter = simp length-drop (omega (arith, some.0, some.1));
    })

pub fixed_came : (r : Rest) (seen : Operands) (x : Read PatReg) → fixed_register r seen ≡ Ok x → Came IsRegAt r seen x
unfolding fixed_register
fixed_came r seen x e = fixed_found r seen x (fixed_of (name_here r)) refl e

pub register_came : (r : Rest) (seen : Operands) (x : Read PatReg) → register r seen ≡ Ok x → Came IsRegAt r seen x
unfolding register
register_came r seen x e = elim (chosen (begins 37 r.bytes) _ _ _ e) [
  | inl (h, is) ↦ any_came r seen x is
  | inr (h, is) ↦ fixed_came r seen x is
]

-- a register as a term
pub register_leaf : (r : Rest) (seen : Operands) (x : Read PatReg) → Came IsRegAt r seen x → Came IsLeafAt r seen
    (record { value = pat.Reg x.value; rest = x.rest; seen = x.seen })
register_leaf r seen x came = record {
  places = came.places;
  has = leaf_at _ _ _ (reg_tree x.value) (record {
    is = came.has.is;
    size = refl;
    depth = refl;
    numbers = record { consts = tt; leaves = came.has.fine };
  });
  told = came.told;
  shorter = came.shorter;
}

pub any_leaf : (r : Rest) (seen : Operands) (x : Read PatReg) → any_register r seen ≡ Ok x → Came IsLeafAt r seen
    (record { value = pat.Reg x.value; rest = x.rest; seen = x.seen })
any_leaf r seen x e = register_leaf r seen x (any_came r seen x e)
