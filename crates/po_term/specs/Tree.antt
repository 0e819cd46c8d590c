-- Trees whose constants are of one kind (words, or expressions with holes) and whose other leaves are of one kind.
use Rattle.po_word.specs.declared.operator.Un.{Un}
use Rattle.po_word.specs.declared.operator.Bin.{Bin}
use Rattle.std.specs.Prelude.{ℕ, ◌+◌, max}

pub data Tree (K L : Type 0) : Type 0 where
  Const : K → Tree K L
  Leaf : L → Tree K L
  Read : Tree K L → Tree K L
  Unary : Un → Tree K L → Tree K L
  Binary : Bin → Tree K L → Tree K L → Tree K L

-- how many nodes a tree has
abbrev pub tree_size : {K L : Type 0} → Tree K L → ℕ
tree_size (Const c) = 1
tree_size (Leaf l) = 1
tree_size (Read x) = 1 + tree_size x
tree_size (Unary o x) = 1 + tree_size x
tree_size (Binary o x y) = 1 + tree_size x + tree_size y

-- how deep a tree is: 1 for a leaf, and one more than its deepest operand else
abbrev pub tree_depth : {K L : Type 0} → Tree K L → ℕ
tree_depth (Const c) = 1
tree_depth (Leaf l) = 1
tree_depth (Read x) = 1 + tree_depth x
tree_depth (Unary o x) = 1 + tree_depth x
tree_depth (Binary o x y) = 1 + max (tree_depth x) (tree_depth y)

-- the tree with each constant and each other leaf replaced
abbrev pub tree_map : {J K L M : Type 0} → (J → K) → (L → M) → Tree J L → Tree K M
tree_map f g (Const c) = Const (f c)
tree_map f g (Leaf l) = Leaf (g l)
tree_map f g (Read x) = Read (tree_map f g x)
tree_map f g (Unary o x) = Unary o (tree_map f g x)
tree_map f g (Binary o x y) = Binary o (tree_map f g x) (tree_map f g y)

-- a fact of each constant of a tree
abbrev pub EachConst : {K L : Type 0} → (K → Type 0) → Tree K L → Type 0
EachConst P (Const c) = P c
EachConst P (Leaf l) = Unit {0}
EachConst P (Read x) = EachConst P x
EachConst P (Unary o x) = EachConst P x
EachConst P (Binary o x y) = EachConst P x × EachConst P y

-- a fact of each other leaf of a tree
abbrev pub EachLeaf : {K L : Type 0} → (L → Type 0) → Tree K L → Type 0
EachLeaf P (Const c) = Unit {0}
EachLeaf P (Leaf l) = P l
EachLeaf P (Read x) = EachLeaf P x
EachLeaf P (Unary o x) = EachLeaf P x
EachLeaf P (Binary o x y) = EachLeaf P x × EachLeaf P y
