-- Words that are whole terms, and operators: what is read prints the word, and the printed word is read.
use Rattle.std.proofs.Common.{◌≡◌, ◌≢◌, ℕ, ◌+◌, ◌-◌, ◌≤◌, ◌<◌, ◌^◌, List, [], ◌∷◌, ◌++◌, true, false, cond, Option}
use Rattle.std.proofs.Common.{Some, None, refl, sym, ap, ◌∙◌, subst, arith, length, get_or, suc, zero, ◌⊎◌, inl, inr}
use Rattle.std.specs.Prelude.{◌==◌, codes, find}
use Rattle.std.specs.List.{list_all}
use Rattle.std.specs.Option.{option_map}
use Rattle.std.specs.Fmt.{decimal}
use Rattle.std.proofs.lemmas.Bool.Decides.{nat_tests}
use Rattle.std.proofs.lemmas.Fmt.{decimal_digit}
use Rattle.std.proofs.lemmas.Slice.Eq.{bytes_eq-Decides}
use Rattle.po_word.specs.declared.operator.Bin.{Bin}
use Rattle.po_word.specs.declared.operator.Bin.TheVariants.{Add, Sub, Mul, And, Or, Xor, Shl, Sar, Shr}
use Rattle.po_term.specs.declared.term.Reg.{Reg}
use Rattle.po_term.specs.declared.term.Reg.TheVariants.{Virt, Fp, Rv, Arg}
use Rattle.po_term.specs.Tree.{Tree, Const, Leaf, tree_depth}
use Rattle.po_term.specs.Terms.{Place, InReg, AtSym}
use Rattle.po_termtext.specs.TermText.{const_text, reg_text, place_text, term_text, bin_text, operators}
use Rattle.po_term.specs.Form.{IsRegister, IsPlace}
use Rattle.po_termtext.specs.Form.{HasNumbers}
use Rattle.po_termtext.specs.Reading.{behind, same, is_digit, number_in, const_in, reg_named, virt_in, symbol_in}
use Rattle.po_termtext.specs.Reading.{leaf_in, operator_in, in_word}
use Rattle.po_termtext.proofs.Options.{chosen, both, mapped, bound, either}
use Rattle.po_termtext.proofs.Words.{behind_found}
use Rattle.po_termtext.proofs.Numbers.{number_found, number_again, const_found, const_again, decimal_digits}
use Rattle.po_termtext.proofs.Numbers.{decimal_some, head_digit, low_text, high_text, halves}

same_text : (v w : List ℕ) → same v w ≡ true → v ≡ w
same_text v w h = (bytes_eq-Decides v w).0 h

-- one of the choices: the word is this text and gives this value, or the others decide
choice : {A : Type 0} (w text : List ℕ) (x y : A) (other : Option A) → cond (same w text) (Some x) other ≡ Some y
    → ((w ≡ text) × (x ≡ y)) ⊎ (other ≡ Some y)
choice w text x y other e = elim (chosen (same w text) (Some x) other (Some y) e)
    [ inl h ↦ inl (same_text w text h.0, cc) | inr h ↦ inr h.1 ]

arg_text : (n : ℕ) → n < 10 → reg_text (Arg n) ≡ codes "arg" ++ ((48 + n) ∷ [])
arg_text n h = ap (λ (ds : List ℕ). codes "arg" ++ ds) (decimal_digit n h)

-- the facts of a register that was read
abbrev Named : List ℕ → Reg → Type 0
Named w r = IsRegister r × (w ≡ reg_text r)

named_arg : (w : List ℕ) (n : ℕ) (r : Reg) → n ≤ 3 → w ≡ codes "arg" ++ ((48 + n) ∷ []) → Arg n ≡ r → Named w r
named_arg w n r h e same = subst (Named w) same (h, e ∙ sym (arg_text n (omega (arith, h))))

pub reg_found : (w : List ℕ) (r : Reg) → reg_named w ≡ Some r → Named w r
unfolding reg_named
reg_found w r e = elim (choice w (codes "fp") Fp r _ e) [
  | inl h ↦ subst (Named w) h.1 (tt, h.0)
  | inr e ↦ elim (choice w (codes "rv") Rv r _ e) [
    | inl h ↦ subst (Named w) h.1 (tt, h.0)
    | inr e ↦ elim (choice w (codes "arg0") (Arg 0) r _ e) [
      | inl h ↦ named_arg w 0 r (omega arith) h.0 h.1
      | inr e ↦ elim (choice w (codes "arg1") (Arg 1) r _ e) [
        | inl h ↦ named_arg w 1 r (omega arith) h.0 h.1
        | inr e ↦ elim (choice w (codes "arg2") (Arg 2) r _ e) [
          | inl h ↦ named_arg w 2 r (omega arith) h.0 h.1
          | inr e ↦ elim (choice w (codes "arg3") (Arg 3) r None e) [
            | inl h ↦ named_arg w 3 r (omega arith) h.0 h.1
            | inr e ↦ cc
          ]
        ]
      ]
    ]
  ]
]

-- the facts of a term of one word
pub record IsLeaf (w : List ℕ) (t : Tree ℕ Place) : Type 0 where
  pub numbers : HasNumbers t
  pub text : w ≡ term_text t
  pub flat : tree_depth t ≤ 1

virt_found : (w : List ℕ) (t : Tree ℕ Place) → virt_in w ≡ Some t → IsLeaf w t
virt_found w t e =
    let digits = bound _ (behind (codes "v") w) t e in
    let number = bound _ (number_in digits.0) t digits.2 in
    let facts = number_found digits.0 number.0 number.1 in
    let made : Leaf (InReg (Virt number.0)) ≡ t = cc in
    let text : w ≡ codes "v" ++ decimal number.0 = behind_found (codes "v") w digits.0 digits.1
    ∙ ap (λ (ds : List ℕ). codes "v" ++ ds) facts.1 in
    subst (IsLeaf w) made (record { numbers = record { words = tt; places = facts.0 }; text = text; flat = omega arith })

symbol_found : (w : List ℕ) (t : Tree ℕ Place) → symbol_in w ≡ Some t → IsLeaf w t
symbol_found w t e =
    let digits = bound _ (behind (codes "&s") w) t e in
    let number = bound _ (number_in digits.0) t digits.2 in
    let facts = number_found digits.0 number.0 number.1 in
    let made : Leaf (AtSym (record { 0 = number.0 })) ≡ t = cc in
    let text : w ≡ codes "&s" ++ decimal number.0 = behind_found (codes "&s") w digits.0 digits.1
    ∙ ap (λ (ds : List ℕ). codes "&s" ++ ds) facts.1 in
    subst (IsLeaf w) made (record { numbers = record { words = tt; places = facts.0 }; text = text; flat = omega arith })

-- a term that one word is read as has that word as its text
pub leaf_found : (w : List ℕ) (t : Tree ℕ Place) → leaf_in w ≡ Some t → IsLeaf w t
unfolding leaf_in
leaf_found w t e = elim (either (option_map (λ r. Leaf (InReg r)) (reg_named w)) _ t e) [
  | inl e ↦
      let read = mapped (λ r. Leaf (InReg r)) (reg_named w) t e in
      let facts = reg_found w read.0 read.1 in
      subst (IsLeaf w) read.2 (record {
        numbers = record { words = tt; places = facts.0 };
        text = facts.1;
        flat = omega arith;
      })
  | inr e ↦ elim (either (virt_in w) _ t e) [
    | inl e ↦ virt_found w t e
    | inr e ↦ elim (either (symbol_in w) _ t e) [
      | inl e ↦ symbol_found w t e
      | inr e ↦
          let read = mapped Const (const_in w) t e in
          let facts = const_found w read.0 read.1 in
          subst (IsLeaf w) read.2 (record {
            numbers = record { words = facts.0; places = tt };
            text = facts.1;
            flat = omega arith;
          })
    ]
  ]
]

-- a word that begins as a constant does is no register and no symbol
const_first : (w : List ℕ) → 45 ≤ get_or w 0 0 → get_or w 0 0 ≤ 57 → leaf_in w ≡ option_map Const (const_in w)
unfolding leaf_in reg_named
const_first [] low high = absurd (omega (arith, low))
const_first (b ∷ ds) low high =
    let f : (b == 102) ≡ false = other b 102 (omega (arith, high)) in
    let r : (b == 114) ≡ false = other b 114 (omega (arith, high)) in
    let a : (b == 97) ≡ false = other b 97 (omega (arith, high)) in
    let v : (b == 118) ≡ false = other b 118 (omega (arith, high)) in
    let s : (b == 38) ≡ false = above b 38 (omega (arith, low)) in
    rw (f, r, a, v, s) refl
  where
    other : (b k : ℕ) → b < k → (b == k) ≡ false
    other b k h = grind (arith, nat_tests)

    above : (b k : ℕ) → k < b → (b == k) ≡ false
    above b k h = grind (arith, nat_tests)

-- the first byte of a constant's text
const_range : (c : ℕ) → c < 2 ^ 32 → (45 ≤ get_or (const_text c) 0 0) × (get_or (const_text c) 0 0 ≤ 57)
const_range c h = elim (halves c) [
  | inl low ↦
      let first = head_digit (decimal c) (decimal_digits c h) (decimal_some c h) in
      rw (low_text c low) (omega (arith, first.0), first.1)
  | inr high ↦ rw (high_text c high h) (omega arith, omega arith)
]

const_leaf : (c : ℕ) → c < 2 ^ 32 → leaf_in (const_text c) ≡ Some (Const c)
const_leaf c h =
    let range = const_range c h in
    const_first (const_text c) range.0 range.1 ∙ ap (option_map Const) (const_again c h)

arg_leaf : (n : ℕ) → n < 4 → leaf_in (codes "arg" ++ ((48 + n) ∷ [])) ≡ Some (Leaf (InReg (Arg n)))
unfolding leaf_in reg_named
arg_leaf zero h = refl
arg_leaf (suc zero) h = refl
arg_leaf (suc (suc zero)) h = refl
arg_leaf (suc (suc (suc zero))) h = refl
arg_leaf (suc (suc (suc (suc n)))) h = absurd (omega (arith, h))

place_leaf : (p : Place) → IsPlace p → leaf_in (place_text p) ≡ Some (Leaf p)
unfolding leaf_in reg_named
place_leaf (InReg (Virt n)) h = rw (number_again n h) refl
place_leaf (InReg Fp) h = refl
place_leaf (InReg Rv) h = refl
place_leaf (InReg (Arg n)) h = ap leaf_in (arg_text n (omega (arith, h))) ∙ arg_leaf n (omega (arith, h))
place_leaf (AtSym s) h = rw (number_again s.0 h) refl

digit_in_word : (b : ℕ) → is_digit b ≡ true → in_word b ≡ true
digit_in_word b h = grind (arith, nat_tests)

digits_in_word : (ds : List ℕ) → list_all is_digit ds ≡ true → list_all in_word ds ≡ true
digits_in_word [] h = refl
digits_in_word (d ∷ ds) h = let parts = both (is_digit d) (list_all is_digit ds) h in
    rw (digit_in_word d parts.0) (digits_in_word ds parts.1)

decimal_in_word : (n : ℕ) → n < 2 ^ 32 → list_all in_word (decimal n) ≡ true
decimal_in_word n h = digits_in_word (decimal n) (decimal_digits n h)

const_in_word : (c : ℕ) → c < 2 ^ 32 → list_all in_word (const_text c) ≡ true
const_in_word c h = elim (halves c) [
  | inl low ↦ rw (low_text c low) (decimal_in_word c h)
  | inr high ↦ rw (high_text c high h) (decimal_in_word (2 ^ 32 - c) (omega arith))
]

place_in_word : (p : Place) → IsPlace p → list_all in_word (place_text p) ≡ true
place_in_word (InReg (Virt n)) h = decimal_in_word n h
place_in_word (InReg Fp) h = refl
place_in_word (InReg Rv) h = refl
place_in_word (InReg (Arg n)) h = decimal_in_word n (omega (arith, h))
place_in_word (AtSym s) h = decimal_in_word s.0 h

-- the operator of a table whose sign is the word
sign_found : (w : List ℕ) (os : List Bin) (o : Bin) → find (λ p. same w (bin_text p)) os ≡ Some o → w ≡ bin_text o
sign_found w [] o e = cc
sign_found w (p ∷ ps) o e =
    elim (choice w (bin_text p) p o (find (λ q. same w (bin_text q)) ps) e)
    [ inl h ↦ h.0 ∙ ap bin_text h.1 | inr h ↦ sign_found w ps o h ]

-- what is read as an operator is its text
pub operator_found : (w : List ℕ) (o : Bin) → operator_in w ≡ Some o → w ≡ bin_text o
unfolding operator_in
operator_found w o e = sign_found w operators o e

pub operator_again : (o : Bin) → operator_in (bin_text o) ≡ Some o
unfolding operator_in
operator_again Add = refl
operator_again Sub = refl
operator_again Mul = refl
operator_again And = refl
operator_again Or = refl
operator_again Xor = refl
operator_again Shl = refl
operator_again Sar = refl
operator_again Shr = refl

pub operator_in_word : (o : Bin) → list_all in_word (bin_text o) ≡ true
operator_in_word Add = refl
operator_in_word Sub = refl
operator_in_word Mul = refl
operator_in_word And = refl
operator_in_word Or = refl
operator_in_word Xor = refl
operator_in_word Shl = refl
operator_in_word Sar = refl
operator_in_word Shr = refl

-- the first byte of a term of one word opens no other term
pub record IsFront (w : List ℕ) : Type 0 where
  pub some : 0 < length w
  pub bracket : get_or w 0 0 ≢ 40
  pub memory : get_or w 0 0 ≢ 77
  pub word : get_or w 0 0 ≢ 110

const_front : (w : List ℕ) → 45 ≤ get_or w 0 0 → get_or w 0 0 ≤ 57 → IsFront w
const_front [] low high = absurd (omega (arith, low))
const_front (b ∷ ds) low high = record {
  some = omega arith;
  bracket = omega (arith, low);
  memory = omega (arith, high);
  word = omega (arith, high);
}

place_front : (p : Place) → IsFront (place_text p)
place_front (InReg (Virt n)) = record {
  some = omega arith;
  bracket = omega arith;
  memory = omega arith;
  word = omega arith;
}
place_front (InReg Fp) = record { some = omega arith; bracket = omega arith; memory = omega arith; word = omega arith }
place_front (InReg Rv) = record { some = omega arith; bracket = omega arith; memory = omega arith; word = omega arith }
place_front (InReg (Arg n)) = record {
  some = omega arith;
  bracket = omega arith;
  memory = omega arith;
  word = omega arith;
}
place_front (AtSym s) = record { some = omega arith; bracket = omega arith; memory = omega arith; word = omega arith }

-- the text of a term of one word is read as it
pub record ReadsAgain (t : Tree ℕ Place) : Type 0 where
  pub word : list_all in_word (term_text t) ≡ true
  pub read : leaf_in (term_text t) ≡ Some t
  pub front : IsFront (term_text t)

pub const_reads : (c : ℕ) → c < 2 ^ 32 → ReadsAgain (Const c)
const_reads c h = let range = const_range c h in record {
  word = const_in_word c h;
  read = const_leaf c h;
  front = const_front (const_text c) range.0 range.1;
}

pub place_reads : (p : Place) → IsPlace p → ReadsAgain (Leaf p)
place_reads p h = record { word = place_in_word p h; read = place_leaf p h; front = place_front p }
