-- The simplifier's table.
--
-- Each operator has a constructor, which makes a term of operands that are simplified. Its clauses are the rows of
-- the table in docs/OPTIMISER.md ("The simplifier"), and the first that applies is taken. a, b, t, u are terms, c, d
-- are constants;
-- `k.un`, `k.bin` fold constants, and `ask k (Zero c) yes no` is the question whether c is 0.
-- At `words` this is the simplifier. At another kind of constants it is the same table read over them.
use Rattle.std.specs.Prelude.{Bool, true, false, ◌==◌, if◌then◌else◌, List, [], ◌∷◌, ◌++◌}
use Rattle.po_word.specs.declared.operator.Un.{Un}
use Rattle.po_word.specs.declared.operator.Un.TheVariants.{Neg, Not}
use Rattle.po_word.specs.declared.operator.Bin.{Bin}
use Rattle.po_word.specs.declared.operator.Bin.TheVariants.{Add, Sub, Mul, And, Or, Xor, Shl, Sar, Shr}
use Rattle.po_word.specs.declared.operator.Rel.{Rel}
use Rattle.po_word.specs.Exprs.{Zero, One, Ones, Pow2, Related}
use Rattle.po_term.specs.declared.term.Reg.{Reg as Register}
use Rattle.po_term.specs.declared.term.Reg.TheVariants.{Virt, Fp, Rv, Arg}
use Rattle.po_term.specs.declared.term.Label.{Label}
use Rattle.po_term.specs.Tree.{Tree, Const, Leaf, Read, Unary, Binary}
use Rattle.po_term.specs.Terms.{Place, InReg}
use Rattle.po_term.specs.Moves.{GoTo, IfTwo, Move, SetTo, CcTo, StoreTo, Ends}
use Rattle.po_term.specs.Kinds.{Kind, Met, give, and_then, ask}

-- both are one register
abbrev pub reg_eq : Register → Register → Bool
reg_eq (Virt m) (Virt n) = m == n
reg_eq Fp Fp = true
reg_eq Rv Rv = true
reg_eq (Arg i) (Arg j) = i == j
reg_eq r s = false

-- both are the same register
abbrev pub same_register : Place → Place → Bool
same_register (InReg r) (InReg s) = reg_eq r s
same_register p q = false

-- `same` says of two leaves whether they are the same register
module _ {K L : Type 0} (k : Kind K) (same : L → L → Bool) where
  -- the constructor of neg(a)
  abbrev pub make_neg : Tree K L → Met K (Tree K L)
  make_neg (Const c) = give (Const (k.un Neg c))
  make_neg (Unary Neg t) = give t
  make_neg a = give (Unary Neg a)

  -- the constructor of not(a)
  abbrev pub make_not : Tree K L → Met K (Tree K L)
  make_not (Const c) = give (Const (k.un Not c))
  make_not (Unary Not t) = give t
  make_not a = give (Unary Not a)

  -- (a op c), or a where c is 0
  abbrev pub plain : Bin → Tree K L → K → Met K (Tree K L)
  plain o a c = ask k (Zero c) (give a) (give (Binary o a (Const c)))

  -- the constructor of (a + c)
  abbrev pub plus_const : Tree K L → K → Met K (Tree K L)
  plus_const (Const d) c = give (Const (k.bin Add d c))
  plus_const (Binary Add t (Const d)) c = plain Add t (k.bin Add d c)
  plus_const a c = plain Add a c

  -- the constructor of (c - b), where b is no constant
  abbrev pub minus_from : K → Tree K L → Met K (Tree K L)
  minus_from c b = ask k (Zero c) (make_neg b) (give (Binary Sub (Const c) b))

  -- the constructor of (a - b)
  abbrev pub make_minus : Tree K L → Tree K L → Met K (Tree K L)
  make_minus (Const c) (Const d) = give (Const (k.bin Sub c d))
  make_minus a (Const c) = plus_const a (k.un Neg c)
  make_minus (Const c) b = minus_from c b
  make_minus (Leaf r) (Leaf s) =
      if same r s then give (Const (k.number 0)) else give (Binary Sub (Leaf r) (Leaf s))
  make_minus a b = give (Binary Sub a b)

  -- the constructor of (a + b)
  unfoldable pub make_plus : Tree K L → Tree K L → Met K (Tree K L)
  make_plus (Const c) (Const d) = give (Const (k.bin Add c d))
  make_plus (Const c) b = plus_const b c
  make_plus a (Const c) = plus_const a c
  make_plus (Binary Add t (Const c)) (Binary Add u (Const d)) =
      and_then (make_plus t u) (λ s. plus_const s (k.bin Add c d))
  make_plus (Binary Add t (Const c)) b = and_then (make_plus t b) (λ s. plus_const s c)
  make_plus a (Binary Add u (Const d)) = and_then (make_plus a u) (λ s. plus_const s d)
  make_plus a (Unary Neg u) = make_minus a u
  make_plus a b = give (Binary Add a b)

  -- the constructor of (a * c), where a is neither a constant nor (t * d)
  abbrev pub times_plain : Tree K L → K → Met K (Tree K L)
  times_plain a c =
      ask k (Zero c) (give (Const (k.number 0)))
      (ask k (One c) (give a)
      (ask k (Pow2 c) (give (Binary Shl a (Const (k.log2 c)))) (give (Binary Mul a (Const c)))))

  -- the constructor of (a * c)
  abbrev pub times_const : Tree K L → K → Met K (Tree K L)
  times_const (Const d) c = give (Const (k.bin Mul d c))
  times_const (Binary Mul t (Const d)) c = times_const t (k.bin Mul d c)
  times_const a c = times_plain a c

  -- the constructor of (a & c), where a is neither a constant nor (t & d)
  abbrev pub and_plain : Tree K L → K → Met K (Tree K L)
  and_plain a c = ask k (Zero c) (give (Const (k.number 0))) (ask k (Ones c) (give a) (give (Binary And a (Const c))))

  -- the constructor of (a & c)
  abbrev pub and_const : Tree K L → K → Met K (Tree K L)
  and_const (Const d) c = give (Const (k.bin And d c))
  and_const (Binary And t (Const d)) c = and_const t (k.bin And d c)
  and_const a c = and_plain a c

  -- the constructor of (a | c)
  abbrev pub or_const : Tree K L → K → Met K (Tree K L)
  or_const (Const d) c = give (Const (k.bin Or d c))
  or_const (Binary Or t (Const d)) c = or_const t (k.bin Or d c)
  or_const a c = plain Or a c

  -- the constructor of (a ^ c)
  abbrev pub xor_const : Tree K L → K → Met K (Tree K L)
  xor_const (Const d) c = give (Const (k.bin Xor d c))
  xor_const (Binary Xor t (Const d)) c = xor_const t (k.bin Xor d c)
  xor_const a c = plain Xor a c

  -- the constructor of (a op b) for *, &, | and ^, where `onto` is that of (a op c): a constant is put right
  abbrev pub make_swapped : Bin → (Tree K L → K → Met K (Tree K L)) → Tree K L → Tree K L → Met K (Tree K L)
  make_swapped o onto (Const c) (Const d) = give (Const (k.bin o c d))
  make_swapped o onto (Const c) b = onto b c
  make_swapped o onto a (Const c) = onto a c
  make_swapped o onto a b = give (Binary o a b)

  -- the constructor of (a op b) for the shifts
  abbrev pub make_shift : Bin → Tree K L → Tree K L → Met K (Tree K L)
  make_shift o (Const c) (Const d) = give (Const (k.bin o c d))
  make_shift o a (Const c) = plain o a c
  make_shift o a b = give (Binary o a b)

  -- the constructor of an operator of one operand
  abbrev pub unary_of : Un → Tree K L → Met K (Tree K L)
  unary_of Neg a = make_neg a
  unary_of Not a = make_not a

  -- the constructor of an operator of two operands
  abbrev pub binary_of : Bin → Tree K L → Tree K L → Met K (Tree K L)
  binary_of Add a b = make_plus a b
  binary_of Sub a b = make_minus a b
  binary_of Mul a b = make_swapped Mul times_const a b
  binary_of And a b = make_swapped And and_const a b
  binary_of Or a b = make_swapped Or or_const a b
  binary_of Xor a b = make_swapped Xor xor_const a b
  binary_of Shl a b = make_shift Shl a b
  binary_of Sar a b = make_shift Sar a b
  binary_of Shr a b = make_shift Shr a b

  -- the term with its operands simplified, left before right, and then the constructor of its operator
  abbrev pub simple : Tree K L → Met K (Tree K L)
  simple (Const c) = give (Const c)
  simple (Leaf l) = give (Leaf l)
  simple (Read x) = and_then (simple x) (λ y. give (Read y))
  simple (Unary o x) = and_then (simple x) (λ y. unary_of o y)
  simple (Binary o x y) = and_then (simple x) (λ a. and_then (simple y) (λ b. binary_of o a b))

  module _ {R S : Type 0} where
    -- a branch on two simplified terms: on two constants it is decided, and one that isn't taken is left out
    abbrev pub decided : Tree K L → Tree K L → Rel → Label → Met K (List (Move K L R S))
    decided (Const c) (Const d) r l = ask k (Related r c d) (give (Ends (GoTo l) ∷ [])) (give [])
    decided a b r l = give (Ends (IfTwo a b r l) ∷ [])

    -- what a transfer becomes: its terms simplified from left to right, and then a branch on two terms decided
    abbrev pub simple_move : Move K L R S → Met K (List (Move K L R S))
    simple_move (SetTo r t) = and_then (simple t) (λ a. give (SetTo r a ∷ []))
    simple_move (CcTo t u) = and_then (simple t) (λ a. and_then (simple u) (λ b. give (CcTo a b ∷ [])))
    simple_move (StoreTo t u) = and_then (simple t) (λ a. and_then (simple u) (λ b. give (StoreTo a b ∷ [])))
    simple_move (Ends (IfTwo t u r l)) = and_then (simple t) (λ a. and_then (simple u) (λ b. decided a b r l))
    simple_move (Ends e) = give (Ends e ∷ [])

    -- what an instruction becomes
    abbrev pub simple_moves : List (Move K L R S) → Met K (List (Move K L R S))
    simple_moves [] = give []
    simple_moves (m ∷ ms) = and_then (simple_move m) (λ xs. and_then (simple_moves ms) (λ ys. give (xs ++ ys)))
