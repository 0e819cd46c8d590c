-- Simplifying keeps values: the word of what a constructor makes is the operator's of the operands' words, in every
-- state.
use Rattle.std.proofs.Common.{◌≡◌, ℕ, ◌-◌, ◌^◌, ◌<◌, Bool, true, false, refl, sym, ◌∙◌, ap, arith, lit<}
use Rattle.std.specs.Prelude.{◌==◌, if◌then◌else◌}
use Rattle.std.proofs.lemmas.Bool.{eqb-true}
use Rattle.po_word.specs.declared.operator.Un.TheVariants.{Neg, Not}
use Rattle.po_word.specs.declared.operator.Bin.TheVariants.{Add, Sub, Mul, And, Or, Xor, Shl, Sar, Shr}
use Rattle.po_word.specs.Words.{un_value, bin_value}
use Rattle.po_term.specs.declared.term.Reg.{Reg as Register}
use Rattle.po_term.specs.declared.term.Reg.TheVariants.{Virt, Fp, Rv, Arg}
use Rattle.po_term.specs.Tree.{Tree, Const, Leaf, Read, Unary, Binary}
use Rattle.po_term.specs.Terms.{Place, InReg, State, IsState, stored, value}
use Rattle.po_term.specs.Kinds.{words, Met, give, ask}
use Rattle.po_term.specs.Simplified.{reg_eq, same_register, make_neg, make_not, plain, plus_const, minus_from}
use Rattle.po_term.specs.Simplified.{make_minus, make_plus, times_plain, and_plain, times_const, and_const, or_const}
use Rattle.po_term.specs.Simplified.{xor_const, make_swapped, make_shift, unary_of, binary_of, simple}
use Rattle.po_term.specs.Worth.{HasWords, IsWorth}
use Rattle.po_simplify.proofs.Folds.{un_fits, bin_fits, add_twice, neg_twice, not_twice, add_neg, sub_same}
use Rattle.po_simplify.proofs.Folds.{add_across, add_comm, add_left, add_right, add_zero, mul_twice, one_bit}
use Rattle.po_simplify.proofs.Folds.{shift_by_bit, or_assoc, shl_zero, sar_zero, shr_zero}
use Rattle.po_word.specs.declared.operator.Un.{Un}
use Rattle.po_word.specs.declared.operator.Bin.{Bin}
use Rattle.po_word.specs.Exprs.{log2, One, Pow2, Ones}
use Rattle.std.specs.Int.{is_power_of_two}
use Rattle.std.specs.Int.Bits.{xor_assoc, and_mask, and_zero_r, or_zero_r, xor_zero_r}
use Rattle.std.proofs.lemmas.Nat.{and_assoc, and_comm, or_comm, xor_comm}
use Rattle.std.proofs.Common.{mul_comm, mod-eq_of_lt}

same_reg : (r q : Register) → reg_eq r q ≡ true → r ≡ q
same_reg (Virt m) (Virt n) e = ap Virt (eqb-true m n e)
same_reg Fp Fp e = refl
same_reg Rv Rv e = refl
same_reg (Arg m) (Arg n) e = ap Arg (eqb-true m n e)
same_reg r q e = cc

same_place : (p q : Place) → same_register p q ≡ true → p ≡ q
same_place (InReg r) (InReg q) e = ap InReg (same_reg r q e)
same_place p q e = cc

module _ (s : State) (fits : IsState s) where
  pub value_fits : (t : Tree ℕ Place) → HasWords t → value s t < 2 ^ 32
  value_fits (Const c) h = h
  value_fits (Leaf l) h = fits.places l
  value_fits (Read x) h = fits.cells (value s x)
  value_fits (Unary o x) h = un_fits o (value s x)
  value_fits (Binary o x y) h = bin_fits o (value s x) (value s y) (value_fits x h.0) (value_fits y h.1)

  neg_worth : (a : Tree ℕ Place) → HasWords a → IsWorth s (make_neg words same_register a).got
      (un_value Neg (value s a))
  neg_worth (Const c) h = record { words = un_fits Neg c; worth = refl }
  neg_worth (Unary Neg t) h = record { words = h; worth = neg_twice (value s t) (value_fits t h) }
  neg_worth a h = record { words = h; worth = refl }

  not_worth : (a : Tree ℕ Place) → HasWords a → IsWorth s (make_not words same_register a).got
      (un_value Not (value s a))
  not_worth (Const c) h = record { words = un_fits Not c; worth = refl }
  not_worth (Unary Not t) h = record { words = h; worth = not_twice (value s t) (value_fits t h) }
  not_worth a h = record { words = h; worth = refl }

  plain_worth : (o : Bin) → ((x : ℕ) → x < 2 ^ 32 → x ≡ bin_value o x 0) → (a : Tree ℕ Place) (c : ℕ) → HasWords a
      → c < 2 ^ 32 → IsWorth s (plain words same_register o a c).got (bin_value o (value s a) c)
  plain_worth o zero_is a c h i = by_zero (c == 0) refl
    where
      by_zero : (b : Bool) → (c == 0) ≡ b → IsWorth s (if b then give {K = ℕ} a
          else give {K = ℕ} (Binary o a (Const c))).got (bin_value o (value s a) c)
      by_zero true e = let z : c ≡ 0 = eqb-true c 0 e in
          record { words = h; worth = rw z (zero_is (value s a) (value_fits a h)) }
      by_zero false e = record { words = (h, i); worth = refl }

  const_worth : (a : Tree ℕ Place) (c : ℕ) → HasWords a → c < 2 ^ 32
      → IsWorth s (plus_const words same_register a c).got (bin_value Add (value s a) c)
  const_worth (Const d) c h i = record { words = bin_fits Add d c h i; worth = refl }
  const_worth (Binary Add t (Const d)) c h i =
      let w : IsWorth s (plus_const words same_register (Binary Add t (Const d)) c).got
      (bin_value Add (value s t) (bin_value Add d c)) = plain_worth Add add_zero t (bin_value Add d c) h.0
      (bin_fits Add d c h.1 i) in
      record { words = w.words; worth = w.worth ∙ add_twice (value s t) d c }
  const_worth a c h i = plain_worth Add add_zero a c h i

  from_worth : (c : ℕ) (b : Tree ℕ Place) → c < 2 ^ 32 → HasWords b
      → IsWorth s (minus_from words same_register c b).got (bin_value Sub c (value s b))
  from_worth c b h i = go (c == 0) refl
    where
      go : (e : Bool) → (c == 0) ≡ e → IsWorth s (if e then make_neg words same_register b
          else give (Binary Sub (Const c) b)).got (bin_value Sub c (value s b))
      go true e =
          let z : c ≡ 0 = eqb-true c 0 e in
          let w : IsWorth s (make_neg words same_register b).got (un_value Neg (value s b)) = neg_worth b i in
          let f : value s b < 2 ^ 32 = value_fits b i in
          record { words = w.words; worth = w.worth ∙ omega arith }
      go false e = record { words = (h, i); worth = refl }

  minus_worth : (a b : Tree ℕ Place) → HasWords a → HasWords b → IsWorth s (make_minus words same_register a b).got
      (bin_value Sub (value s a) (value s b))
  minus_worth (Const c) (Const d) h i = record { words = bin_fits Sub c d h i; worth = refl }
  minus_worth a (Const c) h i =
      let w : IsWorth s (make_minus words same_register a (Const c)).got
      (bin_value Add (value s a) (un_value Neg c)) = const_worth a (un_value Neg c) h (un_fits Neg c) in
      record { words = w.words; worth = w.worth ∙ add_neg (value s a) c }
  minus_worth (Const c) b h i = from_worth c b h i
  minus_worth (Leaf r) (Leaf q) h i = go (same_register r q) refl
    where
      go : (e : Bool) → same_register r q ≡ e → IsWorth s (if e then give {K = ℕ} (Const 0)
          else give {K = ℕ} (Binary Sub (Leaf r) (Leaf q))).got (bin_value Sub (s.place r) (s.place q))
      go true e =
          let f : s.place q < 2 ^ 32 = fits.places q in
          rw (same_place r q e) record { words = lit< tt; worth = sub_same (s.place q) f }
      go false e = record { words = (tt, tt); worth = refl }
  minus_worth a b h i = record { words = (h, i); worth = refl }

  pub plus_worth : (a b : Tree ℕ Place) → HasWords a → HasWords b → IsWorth s (make_plus words same_register a b).got
      (bin_value Add (value s a) (value s b))
  unfolding make_plus
  plus_worth (Const c) (Const d) h i = record { words = bin_fits Add c d h i; worth = refl }
  plus_worth (Const c) b h i = let w = const_worth b c i h in
      record { words = w.words; worth = w.worth ∙ add_comm (value s b) c }
  plus_worth a (Const c) h i = const_worth a c h i
  plus_worth (Binary Add t (Const c)) (Binary Add u (Const d)) h i =
      let v = plus_worth t u h.0 i.0 in
      let w = const_worth (make_plus words same_register t u).got (bin_value Add c d) v.words
      (bin_fits Add c d h.1 i.1) in
      record {
        words = w.words;
        worth = w.worth ∙ ap (λ x. bin_value Add x (bin_value Add c d)) v.worth
            ∙ add_across (value s t) (value s u) c d;
      }
  plus_worth (Binary Add t (Const c)) b h i =
      let v = plus_worth t b h.0 i in
      let w = const_worth (make_plus words same_register t b).got c v.words h.1 in
      record {
        words = w.words;
        worth = w.worth ∙ ap (λ x. bin_value Add x c) v.worth ∙ add_left (value s t)
            (value s b) c;
      }
  plus_worth a (Binary Add u (Const d)) h i =
      let v = plus_worth a u h i.0 in
      let w = const_worth (make_plus words same_register a u).got d v.words i.1 in
      record {
        words = w.words;
        worth = w.worth ∙ ap (λ x. bin_value Add x d) v.worth ∙ add_right (value s a)
            (value s u) d;
      }
  plus_worth a (Unary Neg u) h i =
      let w = minus_worth a u h i in
      record { words = w.words; worth = w.worth ∙ sym (add_neg (value s a) (value s u)) }
  plus_worth a b h i = record { words = (h, i); worth = refl }

  times_plain_worth : (a : Tree ℕ Place) (c : ℕ) → HasWords a → c < 2 ^ 32
      → IsWorth s (times_plain words same_register a c).got (bin_value Mul (value s a) c)
  times_plain_worth a c h i = by_zero (c == 0) refl
    where
      by_bit : (b : Bool) → is_power_of_two c ≡ b → IsWorth s (if b then give {K = ℕ} (Binary Shl a (Const (log2 c)))
          else give {K = ℕ} (Binary Mul a (Const c))).got (bin_value Mul (value s a) c)
      by_bit true e = record { words = (h, omega (arith, (one_bit c i e).1)); worth = shift_by_bit (value s a) c i e }
      by_bit false e = record { words = (h, i); worth = refl }

      by_one : (b : Bool) → (c == 1) ≡ b → IsWorth s (if b then give {K = ℕ} a
          else ask words (Pow2 c) (give (Binary Shl a (Const (log2 c)))) (give (Binary Mul a (Const c)))).got
          (bin_value Mul (value s a) c)
      by_one true e = let z : c ≡ 1 = eqb-true c 1 e in let f : value s a < 2 ^ 32 = value_fits a h in
          record { words = h; worth = rw z (omega arith) }
      by_one false e = by_bit (is_power_of_two c) refl

      by_zero : (b : Bool) → (c == 0) ≡ b → IsWorth s (if b then give {K = ℕ} (Const 0)
          else ask words (One c) (give a) (ask words (Pow2 c) (give (Binary Shl a (Const (log2 c))))
          (give (Binary Mul a (Const c))))).got (bin_value Mul (value s a) c)
      by_zero true e = let z : c ≡ 0 = eqb-true c 0 e in record { words = lit< tt; worth = rw z (omega arith) }
      by_zero false e = by_one (c == 1) refl

  times_worth : (a : Tree ℕ Place) (c : ℕ) → HasWords a → c < 2 ^ 32
      → IsWorth s (times_const words same_register a c).got (bin_value Mul (value s a) c)
  times_worth (Const d) c h i = record { words = bin_fits Mul d c h i; worth = refl }
  times_worth (Binary Mul t (Const d)) c h i =
      let w = times_worth t (bin_value Mul d c) h.0 (bin_fits Mul d c h.1 i) in
      record { words = w.words; worth = w.worth ∙ mul_twice (value s t) d c }
  times_worth a c h i = times_plain_worth a c h i

  and_plain_worth : (a : Tree ℕ Place) (c : ℕ) → HasWords a → c < 2 ^ 32
      → IsWorth s (and_plain words same_register a c).got (bin_value And (value s a) c)
  and_plain_worth a c h i = by_zero (c == 0) refl
    where
      by_ones : (b : Bool) → (c == 2 ^ 32 - 1) ≡ b → IsWorth s (if b then give {K = ℕ} a
          else give {K = ℕ} (Binary And a (Const c))).got (bin_value And (value s a) c)
      by_ones true e =
          let z : c ≡ 2 ^ 32 - 1 = eqb-true c (2 ^ 32 - 1) e in
          record { words = h; worth = rw z (sym (and_mask (value s a) 32 ∙ mod-eq_of_lt (value_fits a h))) }
      by_ones false e = record { words = (h, i); worth = refl }

      by_zero : (b : Bool) → (c == 0) ≡ b → IsWorth s (if b then give {K = ℕ} (Const 0)
          else ask words (Ones c) (give a) (give (Binary And a (Const c)))).got (bin_value And (value s a) c)
      by_zero true e = let z : c ≡ 0 = eqb-true c 0 e in
          record { words = lit< tt; worth = rw z (sym (and_zero_r (value s a))) }
      by_zero false e = by_ones (c == 2 ^ 32 - 1) refl

  and_worth : (a : Tree ℕ Place) (c : ℕ) → HasWords a → c < 2 ^ 32 → IsWorth s (and_const words same_register a c).got
      (bin_value And (value s a) c)
  and_worth (Const d) c h i = record { words = bin_fits And d c h i; worth = refl }
  and_worth (Binary And t (Const d)) c h i =
      let w = and_worth t (bin_value And d c) h.0 (bin_fits And d c h.1 i) in
      record { words = w.words; worth = w.worth ∙ sym (and_assoc c (value s t) d) }
  and_worth a c h i = and_plain_worth a c h i

  or_worth : (a : Tree ℕ Place) (c : ℕ) → HasWords a → c < 2 ^ 32 → IsWorth s (or_const words same_register a c).got
      (bin_value Or (value s a) c)
  or_worth (Const d) c h i = record { words = bin_fits Or d c h i; worth = refl }
  or_worth (Binary Or t (Const d)) c h i =
      let w = or_worth t (bin_value Or d c) h.0 (bin_fits Or d c h.1 i) in
      record { words = w.words; worth = w.worth ∙ sym (or_assoc (value s t) d c) }
  or_worth a c h i = plain_worth Or (λ x _. sym (or_zero_r x)) a c h i

  xor_worth : (a : Tree ℕ Place) (c : ℕ) → HasWords a → c < 2 ^ 32 → IsWorth s (xor_const words same_register a c).got
      (bin_value Xor (value s a) c)
  xor_worth (Const d) c h i = record { words = bin_fits Xor d c h i; worth = refl }
  xor_worth (Binary Xor t (Const d)) c h i =
      let w = xor_worth t (bin_value Xor d c) h.0 (bin_fits Xor d c h.1 i) in
      record { words = w.words; worth = w.worth ∙ sym (xor_assoc (value s t) d c) }
  xor_worth a c h i = plain_worth Xor (λ x _. sym (xor_zero_r x)) a c h i

  swapped_worth : (o : Bin) (onto : Tree ℕ Place → ℕ → Met ℕ (Tree ℕ Place))
      → ((x y : ℕ) → bin_value o x y ≡ bin_value o y x) → ((a : Tree ℕ Place) (c : ℕ) → HasWords a → c < 2 ^ 32
      → IsWorth s (onto a c).got (bin_value o (value s a) c)) → (a b : Tree ℕ Place) → HasWords a → HasWords b
      → IsWorth s (make_swapped words same_register o onto a b).got (bin_value o (value s a) (value s b))
  swapped_worth o onto comm w (Const c) (Const d) h i = record { words = bin_fits o c d h i; worth = refl }
  swapped_worth o onto comm w (Const c) b h i = let v = w b c i h in
      record { words = v.words; worth = v.worth ∙ comm (value s b) c }
  swapped_worth o onto comm w a (Const c) h i = w a c h i
  swapped_worth o onto comm w a b h i = record { words = (h, i); worth = refl }

  shift_worth : (o : Bin) → ((x : ℕ) → x < 2 ^ 32 → x ≡ bin_value o x 0) → (a b : Tree ℕ Place) → HasWords a
      → HasWords b → IsWorth s (make_shift words same_register o a b).got (bin_value o (value s a) (value s b))
  shift_worth o zero_is (Const c) (Const d) h i = record { words = bin_fits o c d h i; worth = refl }
  shift_worth o zero_is a (Const c) h i = plain_worth o zero_is a c h i
  shift_worth o zero_is a b h i = record { words = (h, i); worth = refl }

  pub unary_worth : (o : Un) (a : Tree ℕ Place) → HasWords a → IsWorth s (unary_of words same_register o a).got
      (un_value o (value s a))
  unary_worth Neg a h = neg_worth a h
  unary_worth Not a h = not_worth a h

  pub binary_worth : (o : Bin) (a b : Tree ℕ Place) → HasWords a → HasWords b
      → IsWorth s (binary_of words same_register o a b).got (bin_value o (value s a) (value s b))
  binary_worth Add a b h i = plus_worth a b h i
  binary_worth Sub a b h i = minus_worth a b h i
  binary_worth Mul a b h i = swapped_worth Mul (times_const words same_register) (λ x y. rw (mul_comm x y))
      times_worth a b h i
  binary_worth And a b h i = swapped_worth And (and_const words same_register) and_comm and_worth a b h i
  binary_worth Or a b h i = swapped_worth Or (or_const words same_register) or_comm or_worth a b h i
  binary_worth Xor a b h i = swapped_worth Xor (xor_const words same_register) xor_comm xor_worth a b h i
  binary_worth Shl a b h i = shift_worth Shl shl_zero a b h i
  binary_worth Sar a b h i = shift_worth Sar sar_zero a b h i
  binary_worth Shr a b h i = shift_worth Shr shr_zero a b h i

  pub simple_worth : (t : Tree ℕ Place) → HasWords t → IsWorth s (simple words same_register t).got (value s t)
  simple_worth (Const c) h = record { words = h; worth = refl }
  simple_worth (Leaf l) h = record { words = h; worth = refl }
  simple_worth (Read x) h = let w = simple_worth x h in
      record { words = w.words; worth = ap (λ a. s.memory a) w.worth }
  simple_worth (Unary o x) h =
      let w = simple_worth x h in
      let v = unary_worth o (simple words same_register x).got w.words in
      record { words = v.words; worth = v.worth ∙ ap (λ a. un_value o a) w.worth }
  simple_worth (Binary o x y) h =
      let w = simple_worth x h.0 in
      let u = simple_worth y h.1 in
      let v = binary_worth o (simple words same_register x).got (simple words same_register y).got w.words u.words in
      record {
        words = v.words;
        worth = v.worth ∙ ap (λ a. bin_value o a (value s (simple words same_register y).got))
            w.worth ∙ ap (λ a. bin_value o (value s x) a) u.worth;
      }

pub unary_kept : (o : Un) (a r : Tree ℕ Place) → r ≡ (unary_of words same_register o a).got → (s : State) → IsState s
    → HasWords a → IsWorth s r (un_value o (value s a))
unary_kept o a r e s fits h = rw e (unary_worth s fits o a h)

pub binary_kept : (o : Bin) (a b r : Tree ℕ Place) → r ≡ (binary_of words same_register o a b).got → (s : State)
    → IsState s → HasWords a → HasWords b → IsWorth s r (bin_value o (value s a) (value s b))
binary_kept o a b r e s fits h i = rw e (binary_worth s fits o a b h i)

pub simple_kept : (t r : Tree ℕ Place) → r ≡ (simple words same_register t).got → (s : State) → IsState s → HasWords t
    → IsWorth s r (value s t)
simple_kept t r e s fits h = rw e (simple_worth s fits t h)

-- a word that is stored keeps a state a state
pub stored_fits : (s : State) → IsState s → (a w : ℕ) → w < 2 ^ 32 → IsState (stored a w s)
stored_fits s fits a w h = record { places = fits.places; cells = λ b. go b (b == a) }
  where
    go : (b : ℕ) (e : Bool) → (if e then w else s.memory b) < 2 ^ 32
    go b true = h
    go b false = fits.cells b
