-- Constant expressions with holes, and questions about constants.
use Rattle.std.specs.Prelude.{ℕ, ◌<◌, ◌-◌, ◌^◌, ◌==◌, ◌&&◌, Bool, List, length, slice_index, ℤ, int_lt, not}
use Rattle.std.specs.Int.{w32, leading_zeros, is_power_of_two}
use Rattle.po_word.specs.declared.operator.Un.{Un}
use Rattle.po_word.specs.declared.operator.Bin.{Bin}
use Rattle.po_word.specs.declared.operator.Rel.{Rel}
use Rattle.po_word.specs.Words.{un_value, bin_value, rel_value, signed}

-- a constant expression: a number, a hole by its number, an operator on expressions, or the place of the highest one
-- bit
pub data Expr : Type 0 where
  Number : ℕ → Expr
  AtHole : ℕ → Expr
  UnOf : Un → Expr → Expr
  BinOf : Bin → Expr → Expr → Expr
  Log2Of : Expr → Expr

-- each hole has its word
abbrev pub HasHoles : Expr → List ℕ → Type 0
HasHoles (Number c) ws = Unit {0}
HasHoles (AtHole k) ws = k < length ws
HasHoles (UnOf o x) ws = HasHoles x ws
HasHoles (BinOf o x y) ws = HasHoles x ws × HasHoles y ws
HasHoles (Log2Of x) ws = HasHoles x ws

-- the place of the highest one bit, and 0 of 0
abbrev pub log2 : ℕ → ℕ
log2 c = 31 - leading_zeros w32 c

-- the word of an expression whose hole k is the word k
abbrev pub expr_value : List ℕ → Expr → ℕ
expr_value ws (Number c) = c
expr_value ws (AtHole k) = slice_index ws k
expr_value ws (UnOf o x) = un_value o (expr_value ws x)
expr_value ws (BinOf o x y) = bin_value o (expr_value ws x) (expr_value ws y)
expr_value ws (Log2Of x) = log2 (expr_value ws x)

-- a question about constants of the kind K
pub data Ask (K : Type 0) : Type 0 where
  -- is it 0, 1, 2 ^ 32 - 1, has it exactly one one-bit
  Zero : K → Ask K
  One : K → Ask K
  Ones : K → Ask K
  Pow2 : K → Ask K
  -- does its signed view lie between two ends, both included
  Within : K → ℤ → ℤ → Ask K
  -- are both the same
  Same : K → K → Ask K
  -- does a relation hold
  Related : Rel → K → K → Ask K

-- the question with each constant replaced
abbrev pub ask_map : {J K : Type 0} → (J → K) → Ask J → Ask K
ask_map f (Zero c) = Zero (f c)
ask_map f (One c) = One (f c)
ask_map f (Ones c) = Ones (f c)
ask_map f (Pow2 c) = Pow2 (f c)
ask_map f (Within c lo hi) = Within (f c) lo hi
ask_map f (Same c d) = Same (f c) (f d)
ask_map f (Related r c d) = Related r (f c) (f d)

-- a fact of each constant of a question
abbrev pub OfEach : {K : Type 0} → (K → Type 0) → Ask K → Type 0
OfEach P (Zero c) = P c
OfEach P (One c) = P c
OfEach P (Ones c) = P c
OfEach P (Pow2 c) = P c
OfEach P (Within c lo hi) = P c
OfEach P (Same c d) = P c × P d
OfEach P (Related r c d) = P c × P d

-- the answer to a question about words
abbrev pub is_so : Ask ℕ → Bool
is_so (Zero c) = c == 0
is_so (One c) = c == 1
is_so (Ones c) = c == 2 ^ 32 - 1
is_so (Pow2 c) = is_power_of_two c
is_so (Within c lo hi) = not (int_lt (signed c) lo) && not (int_lt hi (signed c))
is_so (Same c d) = c == d
is_so (Related r c d) = rel_value r c d
