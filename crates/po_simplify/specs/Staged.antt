-- The rows for a + b in stages, one operand at a time, and the row for a constant on the right of an operator that
-- commutes.
use Rattle.std.specs.Prelude.{Bool}
use Rattle.po_word.specs.declared.operator.Un.TheVariants.{Neg}
use Rattle.po_word.specs.declared.operator.Bin.{Bin}
use Rattle.po_word.specs.declared.operator.Bin.TheVariants.{Add, Mul, And, Or, Xor}
use Rattle.po_term.specs.Tree.{Tree, Const, Unary, Binary}
use Rattle.po_term.specs.Kinds.{Kind, Met, give, and_then}
use Rattle.po_term.specs.Simplified.{plain, plus_const, make_minus, times_const, and_const, or_const, xor_const}

module _ {K L : Type 0} (k : Kind K) (same : L → L → Bool) where
  -- a + b, where a is neither a constant nor (t + c)
  abbrev pub plus_right : Tree K L → Tree K L → Met K (Tree K L)
  plus_right a (Const c) = plus_const k same a c
  plus_right a (Binary Add u (Const d)) = and_then (plus_right a u) (λ s. plus_const k same s d)
  plus_right a (Unary Neg u) = make_minus k same a u
  plus_right a b = give (Binary Add a b)

  -- (t + c) + b, where `onto` adds to t
  abbrev pub plus_left : (Tree K L → Met K (Tree K L)) → Tree K L → K → Tree K L → Met K (Tree K L)
  plus_left onto t c (Const d) = plus_const k same (Binary Add t (Const c)) d
  plus_left onto t c (Binary Add u (Const d)) = and_then (onto u) (λ s. plus_const k same s (k.bin Add c d))
  plus_left onto t c b = and_then (onto b) (λ s. plus_const k same s c)

  -- c + b
  abbrev pub plus_from : K → Tree K L → Met K (Tree K L)
  plus_from c (Const d) = give (Const (k.bin Add c d))
  plus_from c b = plus_const k same b c

  -- a + b
  abbrev pub plus_staged : Tree K L → Tree K L → Met K (Tree K L)
  plus_staged (Const c) b = plus_from c b
  plus_staged (Binary Add t (Const c)) b = plus_left (plus_staged t) t c b
  plus_staged a b = plus_right a b

  -- a op c, where op commutes
  abbrev pub onto_const : Bin → Tree K L → K → Met K (Tree K L)
  onto_const Mul a c = times_const k same a c
  onto_const And a c = and_const k same a c
  onto_const Or a c = or_const k same a c
  onto_const Xor a c = xor_const k same a c
  onto_const o a c = plain k same o a c
