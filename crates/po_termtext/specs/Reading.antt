-- What a text is read as, in the cases of the reader: a helper of the proofs that no public clause cites.
use Rattle.std.specs.Prelude.{ℕ, ◌-◌, ◌^◌, List, [], ◌∷◌, length, drop, codes, Option, Some, None, Bool, true, false}
use Rattle.std.specs.Prelude.{not, nat_eq, nat_le, nat_lt, ◌==◌, ◌&&◌, ◌||◌, if◌then◌else◌, zero, suc, find}
use Rattle.std.specs.List.{list_all, take_while}
use Rattle.std.specs.Option.{option_map}
use Rattle.std.specs.Cmp.Lexicographic.{pointwise}
use Rattle.std.specs.Str.Parse.{digits_value}
use Rattle.po_word.specs.declared.operator.Un.TheVariants.{Neg, Not}
use Rattle.po_word.specs.declared.operator.Bin.{Bin}
use Rattle.po_term.specs.declared.term.Reg.{Reg}
use Rattle.po_term.specs.declared.term.Reg.TheVariants.{Virt, Fp, Rv, Arg}
use Rattle.po_term.specs.Tree.{Tree, Const, Leaf, Read, Unary, Binary, tree_size}
use Rattle.po_term.specs.Terms.{Place, InReg, AtSym}
use Rattle.po_termtext.specs.TermText.{bin_text, operators}

-- a later part is read where the earlier ones are there
infixl 10 ◌>>=◌
abbrev pub ◌>>=◌ : {A B : Type 0} → Option A → (A → Option B) → Option B
(Some x) >>= f = f x
None >>= f = None

-- the first, and where it isn't there the second
abbrev pub or_else : {A : Type 0} → Option A → Option A → Option A
or_else (Some x) other = Some x
or_else None other = other

-- what stands behind these bytes, where the text begins with them
abbrev pub behind : List ℕ → List ℕ → Option (List ℕ)
behind [] s = Some s
behind (c ∷ cs) [] = None
behind (c ∷ cs) (b ∷ s) = if b == c then behind cs s else None

abbrev pub same : List ℕ → List ℕ → Bool
same = pointwise nat_eq

abbrev pub is_digit : ℕ → Bool
is_digit b = nat_le 48 b && nat_le b 57

-- one digit, or more of which the first isn't 0
abbrev pub begins_well : List ℕ → Bool
begins_well [] = false
begins_well (d ∷ []) = true
begins_well (d ∷ e ∷ ds) = not (d == 48)

-- a number below 2 ^ 32, without leading zeros
unfoldable pub number_in : List ℕ → Option ℕ
number_in ds = if list_all is_digit ds && begins_well ds && nat_lt (digits_value 10 ds) (2 ^ 32)
    then Some (digits_value 10 ds) else None

abbrev pub positive_in : ℕ → Option ℕ
positive_in m = if nat_lt m (2 ^ 31) then Some m else None

abbrev pub negative_in : ℕ → Option ℕ
negative_in m = if nat_lt 0 m && nat_le m (2 ^ 31) then Some (2 ^ 32 - m) else None

-- a constant, written by its signed view
unfoldable pub const_in : List ℕ → Option ℕ
const_in [] = None
const_in (b ∷ ds) = if b == 45 then number_in ds >>= negative_in else number_in (b ∷ ds) >>= positive_in

unfoldable pub reg_named : List ℕ → Option Reg
reg_named w =
    if same w (codes "fp") then Some Fp else
    (if same w (codes "rv") then Some Rv else
    (if same w (codes "arg0") then Some (Arg 0) else
    (if same w (codes "arg1") then Some (Arg 1) else
    (if same w (codes "arg2") then Some (Arg 2) else
    (if same w (codes "arg3") then Some (Arg 3) else None)))))

abbrev pub virt_in : List ℕ → Option (Tree ℕ Place)
virt_in w = do
  ds ← behind (codes "v") w
  n ← number_in ds
  Some (Leaf (InReg (Virt n)))

abbrev pub symbol_in : List ℕ → Option (Tree ℕ Place)
symbol_in w = do
  ds ← behind (codes "&s") w
  n ← number_in ds
  Some (Leaf (AtSym (record { 0 = n })))

-- a word that is a whole term
unfoldable pub leaf_in : List ℕ → Option (Tree ℕ Place)
leaf_in w = or_else (option_map (λ r. Leaf (InReg r)) (reg_named w))
    (or_else (virt_in w) (or_else (symbol_in w) (option_map Const (const_in w))))

-- the operator whose sign this is
unfoldable pub operator_in : List ℕ → Option Bin
operator_in w = find (λ o. same w (bin_text o)) operators

-- a blank or a closing bracket ends a word
abbrev pub in_word : ℕ → Bool
in_word b = not (b == 32 || b == 41 || b == 93)

abbrev pub word_of : List ℕ → List ℕ
word_of s = take_while in_word s

abbrev pub rest_of : List ℕ → List ℕ
rest_of s = drop (length (word_of s)) s

-- what was read, and the text behind it
abbrev pub Seen : Type 0 → Type 0
Seen A = A × List ℕ

unfoldable pub leaf_seen : List ℕ → Option (Seen (Tree ℕ Place))
leaf_seen s = option_map (λ t. (t, rest_of s)) (leaf_in (word_of s))

-- an operator between two blanks
unfoldable pub operator_seen : List ℕ → Option (Seen Bin)
operator_seen s = do
  inner ← behind (codes " ") s
  op ← operator_in (word_of inner)
  rest ← behind (codes " ") (rest_of inner)
  Some (op, rest)

-- what was read with one operand, where this closes it
unfoldable pub closed : (Tree ℕ Place → Tree ℕ Place) → List ℕ → Seen (Tree ℕ Place) → Option (Seen (Tree ℕ Place))
closed make mark operand = option_map (λ rest. (make operand.0, rest)) (behind mark operand.1)

-- by what stands behind `(`, `M[`, `neg(` or `not(` at the front of the text, with operands that are read so
abbrev pub by_front : (List ℕ → Option (Seen (Tree ℕ Place))) → List ℕ → Option (List ℕ) → Option (List ℕ)
    → Option (List ℕ) → Option (List ℕ) → Option (Seen (Tree ℕ Place))
by_front operand s (Some inner) memory negated inverse = do
  left ← operand inner
  op ← operator_seen left.1
  right ← operand op.1
  closed (Binary op.0 left.0) (codes ")") right
by_front operand s None (Some inner) negated inverse = operand inner >>= closed Read (codes "]")
by_front operand s None None (Some inner) inverse = operand inner >>= closed (Unary Neg) (codes ")")
by_front operand s None None None (Some inner) = operand inner >>= closed (Unary Not) (codes ")")
by_front operand s None None None None = leaf_seen s

-- one term at the front
abbrev pub term_by : (List ℕ → Option (Seen (Tree ℕ Place))) → List ℕ → Option (Seen (Tree ℕ Place))
term_by operand s = by_front operand s (behind (codes "(") s) (behind (codes "M[") s) (behind (codes "neg(") s)
    (behind (codes "not(") s)

-- a term of at most this depth at the front
unfoldable pub term_in : ℕ → List ℕ → Option (Seen (Tree ℕ Place))
term_in zero s = None
term_in (suc depth) s = term_by (term_in depth) s

-- the term, where nothing stands behind it and it has at most 64 nodes
unfoldable pub whole : Seen (Tree ℕ Place) → Option (Tree ℕ Place)
whole (t, []) = if nat_le (tree_size t) 64 then Some t else None
whole (t, b ∷ bs) = None

-- a text that is one term
unfoldable pub text_in : List ℕ → Option (Tree ℕ Place)
text_in s = term_in 16 s >>= whole
