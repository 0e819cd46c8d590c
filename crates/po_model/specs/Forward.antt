-- Whether two addresses meet, and what a term becomes that is read after an instruction.
--
-- An address has a base and an offset: c has the offset c and no base, (u + c) the base u and the offset c, and any
-- other term is its own base without an offset.
use Rattle.std.specs.Prelude.{Bool, true, false, if◌then◌else◌, List, Option, Some, None}
use Rattle.po_word.specs.Exprs.{Ask, Zero}
use Rattle.po_word.specs.Exprs as asked
use Rattle.po_word.specs.declared.operator.Bin.TheVariants.{Add}
use Rattle.po_term.specs.declared.term.Alias.{Alias}
use Rattle.po_term.specs.declared.term.Alias.TheVariants.{Same, Apart, Maybe}
use Rattle.po_term.specs.Tree.{Tree, Const, Leaf, Read, Unary, Binary}
use Rattle.po_term.specs.Moves.{Move}
use Rattle.po_term.specs.Kinds.{Kind, Met, give, and_then, ask}
use Rattle.po_term.specs.Simplified.{unary_of, binary_of}
use Rattle.po_model.specs.Operators.{un_eq, bin_eq}
use Rattle.po_model.specs.Parts.{Leaves, store_of, right_at}

-- with what there is, if there is something
abbrev pub with_some : {K A B : Type 0} → Option A → (A → Met K (Option B)) → Met K (Option B)
with_some None f = give None
with_some (Some x) f = f x

-- m, and then what f makes of its result where it has one
abbrev pub and_some : {K A B : Type 0} → Met K (Option A) → (A → Met K (Option B)) → Met K (Option B)
and_some m f = and_then m (λ r. with_some r f)

abbrev pub some_of : {K A : Type 0} → Met K A → Met K (Option A)
some_of m = and_then m (λ x. give (Some x))

module _ {K L : Type 0} where
  abbrev pub base_of : Tree K L → Option (Tree K L)
  base_of (Const c) = None
  base_of (Binary Add u (Const c)) = Some u
  base_of a = Some a

  abbrev pub offset_of : Tree K L → Option K
  offset_of (Const c) = Some c
  offset_of (Binary Add u (Const c)) = Some c
  offset_of a = None

  -- the word at q, where w was stored at an address that meets q so
  abbrev pub by_alias : Alias → Tree K L → Tree K L → Option (Tree K L)
  by_alias Same w q = Some w
  by_alias Apart w q = Some (Read q)
  by_alias Maybe w q = None

  -- a leaf's right side where it is set, and itself elsewhere
  abbrev pub right_or : Option (Tree K L) → L → Tree K L
  right_or None l = Leaf l
  right_or (Some t) l = t

module _ {K L R S : Type 0} (k : Kind K) (leaves : Leaves L R S) where
  -- whether two bases are one term, from left to right, each operator before its operands
  abbrev pub agree : Tree K L → Tree K L → Met K Bool
  agree (Const c) (Const d) = ask k (asked.Same c d) (give true) (give false)
  agree (Leaf l) (Leaf m) = give (leaves.same_leaf l m)
  agree (Read x) (Read y) = agree x y
  agree (Unary o x) (Unary p y) = if un_eq o p then agree x y else give false
  agree (Binary o x y) (Binary p u v) = if bin_eq o p then and_then (agree x u) (λ yes. if yes then agree y v
      else give false) else give false
  agree a b = give false

  -- at one base, the addresses are one where their offsets are, and apart elsewhere
  abbrev pub by_offsets : Option K → Option K → Met K Alias
  by_offsets (Some c) (Some d) = ask k (asked.Same c d) (give Same) (give Apart)
  by_offsets (Some c) None = ask k (Zero c) (give Same) (give Apart)
  by_offsets None (Some d) = ask k (Zero d) (give Same) (give Apart)
  by_offsets None None = give Same

  -- nothing is known where one has a base and the other none, or the bases differ
  abbrev pub by_bases : Option (Tree K L) → Option (Tree K L) → Met K Alias → Met K Alias
  by_bases (Some u) (Some v) offsets = and_then (agree u v) (λ yes. if yes then offsets else give Maybe)
  by_bases None None offsets = offsets
  by_bases u v offsets = give Maybe

  -- whether the addresses p and q meet
  abbrev pub alias_of : Tree K L → Tree K L → Met K Alias
  alias_of p q = by_bases (base_of p) (base_of q) (by_offsets (offset_of p) (offset_of q))

  -- the word at q after the store
  abbrev pub read_after : Option (Tree K L × Tree K L) → Tree K L → Met K (Option (Tree K L))
  read_after None q = give (Some (Read q))
  read_after (Some stored) q = and_then (alias_of stored.0 q) (λ meets. give (by_alias meets stored.1 q))

  -- the term t, read after the instruction A, as a term that is read before it; none where a read may or may not meet
  -- A's store
  abbrev pub forward : List (Move K L R S) → Tree K L → Met K (Option (Tree K L))
  forward a (Const c) = give (Some (Const c))
  forward a (Leaf l) = give (Some (right_or (right_at leaves l a) l))
  forward a (Read x) = and_some (forward a x) (λ q. read_after (store_of a) q)
  forward a (Unary o x) = and_some (forward a x) (λ t. some_of (unary_of k leaves.same_register o t))
  forward a (Binary o x y) = and_some (forward a x) (λ t. and_some (forward a y)
      (λ u. some_of (binary_of k leaves.same_register o t u)))
