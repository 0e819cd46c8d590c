-- Simplifying adds no leaf: what holds of each register and symbol of the operands holds of each one of what a
-- constructor makes.
use Rattle.std.specs.Prelude.{Bool, true, false, if◌then◌else◌}
use Rattle.po_word.specs.declared.operator.Un.{Un}
use Rattle.po_word.specs.declared.operator.Un.TheVariants.{Neg, Not}
use Rattle.po_word.specs.declared.operator.Bin.{Bin}
use Rattle.po_word.specs.declared.operator.Bin.TheVariants.{Add, Sub, Mul, And, Or, Xor, Shl, Sar, Shr}
use Rattle.po_word.specs.Exprs.{Ask, Zero, One, Ones, Pow2}
use Rattle.po_term.specs.Tree.{Tree, Const, Leaf, Read, Unary, Binary, EachLeaf}
use Rattle.po_term.specs.Kinds.{Kind, Met, give, ask}
use Rattle.po_term.specs.Simplified.{make_neg, make_not, plain, plus_const, minus_from, make_minus, make_plus}
use Rattle.po_term.specs.Simplified.{times_plain, and_plain, times_const, and_const, or_const, xor_const}
use Rattle.po_term.specs.Simplified.{make_swapped, make_shift, unary_of, binary_of, simple}

module _ {K L : Type 0} (k : Kind K) (same : L → L → Bool) (P : L → Type 0) where
  -- a question adds none
  asked_leaves : (q : Ask K) (m n : Met K (Tree K L)) → EachLeaf P m.got → EachLeaf P n.got
      → EachLeaf P (ask k q m n).got
  asked_leaves q m n h i = go (k.says q)
    where
      go : (b : Bool) → EachLeaf P (if b then m else n).got
      go true = h
      go false = i

  neg_leaves : (a : Tree K L) → EachLeaf P a → EachLeaf P (make_neg k same a).got
  neg_leaves (Const c) h = tt
  neg_leaves (Unary Neg t) h = h
  neg_leaves a h = h

  not_leaves : (a : Tree K L) → EachLeaf P a → EachLeaf P (make_not k same a).got
  not_leaves (Const c) h = tt
  not_leaves (Unary Not t) h = h
  not_leaves a h = h

  plain_leaves : (o : Bin) (a : Tree K L) (c : K) → EachLeaf P a → EachLeaf P (plain k same o a c).got
  plain_leaves o a c h = asked_leaves (Zero c) (give a) (give (Binary o a (Const c))) h (h, tt)

  const_leaves : (a : Tree K L) (c : K) → EachLeaf P a → EachLeaf P (plus_const k same a c).got
  const_leaves (Const d) c h = tt
  const_leaves (Binary Add t (Const d)) c h = plain_leaves Add t (k.bin Add d c) h.0
  const_leaves a c h = plain_leaves Add a c h

  from_leaves : (c : K) (b : Tree K L) → EachLeaf P b → EachLeaf P (minus_from k same c b).got
  from_leaves c b h = asked_leaves (Zero c) (make_neg k same b) (give (Binary Sub (Const c) b)) (neg_leaves b h)
      (tt, h)

  minus_leaves : (a b : Tree K L) → EachLeaf P a → EachLeaf P b → EachLeaf P (make_minus k same a b).got
  minus_leaves (Const c) (Const d) h i = tt
  minus_leaves a (Const c) h i = const_leaves a (k.un Neg c) h
  minus_leaves (Const c) b h i = from_leaves c b i
  minus_leaves (Leaf r) (Leaf q) h i = go (same r q)
    where
      go : (e : Bool) → EachLeaf P (if e then give {K = K} (Const (k.number 0))
          else give {K = K} (Binary Sub (Leaf r) (Leaf q))).got
      go true = tt
      go false = (h, i)
  minus_leaves a b h i = (h, i)

  plus_leaves : (a b : Tree K L) → EachLeaf P a → EachLeaf P b → EachLeaf P (make_plus k same a b).got
  unfolding make_plus
  plus_leaves (Const c) (Const d) h i = tt
  plus_leaves (Const c) b h i = const_leaves b c i
  plus_leaves a (Const c) h i = const_leaves a c h
  plus_leaves (Binary Add t (Const c)) (Binary Add u (Const d)) h i = const_leaves (make_plus k same t u).got
      (k.bin Add c d) (plus_leaves t u h.0 i.0)
  plus_leaves (Binary Add t (Const c)) b h i = const_leaves (make_plus k same t b).got c (plus_leaves t b h.0 i)
  plus_leaves a (Binary Add u (Const d)) h i = const_leaves (make_plus k same a u).got d (plus_leaves a u h i.0)
  plus_leaves a (Unary Neg u) h i = minus_leaves a u h i
  plus_leaves a b h i = (h, i)

  times_plain_leaves : (a : Tree K L) (c : K) → EachLeaf P a → EachLeaf P (times_plain k same a c).got
  times_plain_leaves a c h =
      let bit = asked_leaves (Pow2 c) (give (Binary Shl a (Const (k.log2 c)))) (give (Binary Mul a (Const c))) (h, tt)
      (h, tt) in
      let one = asked_leaves (One c) (give a) (ask k (Pow2 c) (give (Binary Shl a (Const (k.log2 c))))
      (give (Binary Mul a (Const c)))) h bit in
      asked_leaves (Zero c) (give (Const (k.number 0)))
      (ask k (One c) (give a) (ask k (Pow2 c) (give (Binary Shl a (Const (k.log2 c))))
      (give (Binary Mul a (Const c))))) tt one

  times_leaves : (a : Tree K L) (c : K) → EachLeaf P a → EachLeaf P (times_const k same a c).got
  times_leaves (Const d) c h = tt
  times_leaves (Binary Mul t (Const d)) c h = times_leaves t (k.bin Mul d c) h.0
  times_leaves a c h = times_plain_leaves a c h

  and_plain_leaves : (a : Tree K L) (c : K) → EachLeaf P a → EachLeaf P (and_plain k same a c).got
  and_plain_leaves a c h =
      asked_leaves (Zero c) (give (Const (k.number 0))) (ask k (Ones c) (give a) (give (Binary And a (Const c)))) tt
      (asked_leaves (Ones c) (give a) (give (Binary And a (Const c))) h (h, tt))

  and_leaves : (a : Tree K L) (c : K) → EachLeaf P a → EachLeaf P (and_const k same a c).got
  and_leaves (Const d) c h = tt
  and_leaves (Binary And t (Const d)) c h = and_leaves t (k.bin And d c) h.0
  and_leaves a c h = and_plain_leaves a c h

  or_leaves : (a : Tree K L) (c : K) → EachLeaf P a → EachLeaf P (or_const k same a c).got
  or_leaves (Const d) c h = tt
  or_leaves (Binary Or t (Const d)) c h = or_leaves t (k.bin Or d c) h.0
  or_leaves a c h = plain_leaves Or a c h

  xor_leaves : (a : Tree K L) (c : K) → EachLeaf P a → EachLeaf P (xor_const k same a c).got
  xor_leaves (Const d) c h = tt
  xor_leaves (Binary Xor t (Const d)) c h = xor_leaves t (k.bin Xor d c) h.0
  xor_leaves a c h = plain_leaves Xor a c h

  swapped_leaves : (o : Bin) (onto : Tree K L → K → Met K (Tree K L))
      → ((a : Tree K L) (c : K) → EachLeaf P a → EachLeaf P (onto a c).got) → (a b : Tree K L) → EachLeaf P a
      → EachLeaf P b → EachLeaf P (make_swapped k same o onto a b).got
  swapped_leaves o onto w (Const c) (Const d) h i = tt
  swapped_leaves o onto w (Const c) b h i = w b c i
  swapped_leaves o onto w a (Const c) h i = w a c h
  swapped_leaves o onto w a b h i = (h, i)

  shift_leaves : (o : Bin) (a b : Tree K L) → EachLeaf P a → EachLeaf P b → EachLeaf P (make_shift k same o a b).got
  shift_leaves o (Const c) (Const d) h i = tt
  shift_leaves o a (Const c) h i = plain_leaves o a c h
  shift_leaves o a b h i = (h, i)

  pub unary_leaves : (o : Un) (a : Tree K L) → EachLeaf P a → EachLeaf P (unary_of k same o a).got
  unary_leaves Neg a h = neg_leaves a h
  unary_leaves Not a h = not_leaves a h

  pub binary_leaves : (o : Bin) (a b : Tree K L) → EachLeaf P a → EachLeaf P b
      → EachLeaf P (binary_of k same o a b).got
  binary_leaves Add a b h i = plus_leaves a b h i
  binary_leaves Sub a b h i = minus_leaves a b h i
  binary_leaves Mul a b h i = swapped_leaves Mul (times_const k same) times_leaves a b h i
  binary_leaves And a b h i = swapped_leaves And (and_const k same) and_leaves a b h i
  binary_leaves Or a b h i = swapped_leaves Or (or_const k same) or_leaves a b h i
  binary_leaves Xor a b h i = swapped_leaves Xor (xor_const k same) xor_leaves a b h i
  binary_leaves Shl a b h i = shift_leaves Shl a b h i
  binary_leaves Sar a b h i = shift_leaves Sar a b h i
  binary_leaves Shr a b h i = shift_leaves Shr a b h i

  pub simple_leaves : (t : Tree K L) → EachLeaf P t → EachLeaf P (simple k same t).got
  simple_leaves (Const c) h = h
  simple_leaves (Leaf l) h = h
  simple_leaves (Read x) h = simple_leaves x h
  simple_leaves (Unary o x) h = unary_leaves o (simple k same x).got (simple_leaves x h)
  simple_leaves (Binary o x y) h = binary_leaves o (simple k same x).got (simple k same y).got (simple_leaves x h.0)
      (simple_leaves y h.1)
