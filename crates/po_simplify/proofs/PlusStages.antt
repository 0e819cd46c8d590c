-- The rows for a + b are those in stages.
use Rattle.std.proofs.Common.{◌≡◌, Bool, refl}
use Rattle.po_word.specs.declared.operator.Un.TheVariants.{Neg}
use Rattle.po_word.specs.declared.operator.Bin.TheVariants.{Add}
use Rattle.po_term.specs.Tree.{Tree, Const, Unary, Binary}
use Rattle.po_term.specs.Kinds.{Kind}
use Rattle.po_term.specs.Simplified.{make_plus}
use Rattle.po_simplify.specs.Staged.{plus_staged}

module _ {K L : Type 0} (k : Kind K) (same : L → L → Bool) where
  pub plus_is_staged : (a b : Tree K L) → make_plus k same a b ≡ plus_staged k same a b
  unfolding make_plus
  plus_is_staged (Const c) (Const d) = refl
  plus_is_staged (Const c) b = refl
  plus_is_staged (Binary Add t (Const d)) (Const c) = refl
  plus_is_staged a (Const c) = refl
  plus_is_staged (Binary Add t (Const c)) (Binary Add u (Const d)) = rw (plus_is_staged t u)
  plus_is_staged (Binary Add t (Const c)) b = rw (plus_is_staged t b)
  plus_is_staged a (Binary Add u (Const d)) = rw (plus_is_staged a u)
  plus_is_staged a (Unary Neg u) = refl
  plus_is_staged a b = refl
